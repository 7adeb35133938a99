-- The same of classes, modules and the whole model: what the one pass gathers is what the tree holds.
use Rattle.std.proofs.Common.{◌≡◌, ℕ, zero, suc, ◌+◌, Bool, true, false, cond, eqb, List, [], ◌∷◌, ◌++◌, length, set, Some, None, Option, sym, refl, ap, ◌∙◌, append_assoc, append-nil, arith, length-append}
use Rattle.std.proofs.Math.Seq.{set-append_seam}
use Rattle.text.specs.Names.{identifier}
use Rattle.model.specs.declared.findings.Findings.{Findings}
use Rattle.model.specs.declared.files.File.{File}
use Rattle.model.specs.Tree.{Class, Module, Modules, no_class, add_class, pymodule, no_module, add_module}
use Rattle.model.specs.Read.{Out, read, fault, bind, place, text, fields, bit, listed, exprs, function, functions, attribute, attributes, class_over, one_class, classes, module_over, one_module, ended, deepest_allowed, model}
use Rattle.model.specs.Rules.{exprs_items, each_items, attribute_items, function_items, class_items, classes_items, module_items, modules_items}
use Rattle.model.specs.Files.{file, held, Held, modules_within, modules_in, entries, entries_in, helds, helds_in}
use Rattle.model.specs.Audit.{note_name, audit_list, audit_exprs, audit_function, audit_functions, audit_attribute, audit_attributes, audit_class_over, audit_class, audit_classes, Gathered, opened, audit_module_over, audit_module, audit_end, audit, nothing, judge_all, gather_of, gather_all, map_out}
use Rattle.model.proofs.Told.{judge_append, share, chain, last, Tells, listed-told, each-told, exprs-told, attribute-told, function-told, named}

-- steps within steps are steps in a row
flat : {A B C : Type 0} (o : Out A) (F : A → List ℕ → Out B) (G : B → List ℕ → Out C) → bind (bind o F) G ≡ bind o (λ a r. bind (F a r) G)
flat (read a r) F G = refl
flat (fault p) F G = refl

functions-told : (n d : ℕ) (b : Bool) (bs : List ℕ) (f : Findings) → audit_functions n d b bs f ≡ map_out (λ l. judge_all (each_items function_items l) f) (functions n d b bs)
functions-told n d b bs f = each-told function_items (function n d) (audit_function n d) (function-told n d) n b bs f

attributes-told : (n d : ℕ) (b : Bool) (bs : List ℕ) (f : Findings) → audit_attributes n d b bs f ≡ map_out (λ l. judge_all (each_items attribute_items l) f) (attributes n d b bs)
attributes-told n d b bs f = each-told attribute_items (attribute n d) (audit_attribute n d) (attribute-told n d) n b bs f

classes_told_by : (n : ℕ) (one : List ℕ → Out Class) (pass : List ℕ → Findings → Out Findings) → Tells (λ c f. judge_all (class_items c) f) one pass → (b : Bool) (bs : List ℕ) (f : Findings) → audit_list n pass b bs f ≡ map_out (λ cs. judge_all (classes_items cs) f) (listed n no_class add_class one b bs)
classes_told_by n one pass t b bs f =
    listed-told (λ c f. judge_all (class_items c) f) (λ cs f. judge_all (classes_items cs) f) no_class add_class one pass (λ f. refl) (λ c cs f. judge_append (class_items c) (classes_items cs) f) t n b bs f

class_told_over : (n d : ℕ) (one : List ℕ → Out Class) (pass : List ℕ → Findings → Out Findings) → Tells (λ c f. judge_all (class_items c) f) one pass → Tells (λ c f. judge_all (class_items c) f) (class_over n d one) (audit_class_over n d pass)
class_told_over n d one pass t bs f =
    share (fields n 32 bs) _ _ _ λ m r0 e0.
    named n (place n bs) r0 f _ _ _ λ s r1.
    let f1 : Findings = note_name (place n bs) (identifier s) f in
    flat (audit_exprs n d (bit m 1) r1 f1) _ _ ∙
    (chain (exprs n d (bit m 1) r1) _ _ _ _ _ (exprs-told n d (bit m 1) r1 f1) λ bases r2 e2.
    let f2 : Findings = judge_all (exprs_items bases) f1 in
    flat (audit_functions n d (bit m 2) r2 f2) _ _ ∙
    (chain (functions n d (bit m 2) r2) _ _ _ _ _ (functions-told n d (bit m 2) r2 f2) λ methods r3 e3.
    let f3 : Findings = judge_all (each_items function_items methods) f2 in
    flat (audit_attributes n d (bit m 4) r3 f3) _ _ ∙
    (chain (attributes n d (bit m 4) r3) _ _ _ _ _ (attributes-told n d (bit m 4) r3 f3) λ attrs r4 e4.
    let f4 : Findings = judge_all (each_items attribute_items attrs) f3 in
    chain (exprs n d (bit m 8) r4) _ _ _ _ _ (exprs-told n d (bit m 8) r4 f4) λ decorators r5 e5.
    let f5 : Findings = judge_all (exprs_items decorators) f4 in
    last (listed n no_class add_class one (bit m 16) r5) _ _ _ _ (classes_told_by n one pass t (bit m 16) r5 f5) λ inner r6 e6.
    ap (λ (h : Findings). read h r6) (sym (judge_append (exprs_items bases) _ f1 ∙ judge_append (each_items function_items methods) _ f2 ∙ judge_append (each_items attribute_items attrs) _ f3 ∙ judge_append (exprs_items decorators) _ f4)))))

pub class-told : (n d : ℕ) → Tells (λ c f. judge_all (class_items c) f) (one_class n d) (audit_class n d)
unfolding one_class audit_class
class-told n zero bs f = refl
class-told n (suc d) bs f = class_told_over n d (one_class n d) (audit_class n d) (class-told n d) bs f

-- numbering: a module takes as many numbers as it has modules
mutual
  entries-count : (m : Module) (k : ℕ) (h : Option ℕ) → length (entries m k h) ≡ modules_within m
  entries-count (pymodule p s ms own cs fs as') k h = let e = entries_in-count ms (k + 1) (Some k) in omega arith

  entries_in-count : (ms : Modules) (k : ℕ) (h : Option ℕ) → length (entries_in ms k h) ≡ modules_in ms
  entries_in-count no_module k h = refl
  entries_in-count (add_module m ms) k h =
      let a = entries-count m k h in
      let b = entries_in-count ms (k + modules_within m) h in
      let c = length-append (entries m k h) (entries_in ms (k + modules_within m) h) in
      omega arith

abbrev pub gather_in : Option ℕ → Gathered → Modules → Gathered
gather_in h g ms =
    record { found = judge_all (modules_items ms) g.found; files = g.files ++ entries_in ms (length g.files) h; siblings = g.siblings ++ helds_in ms (length g.files) h }

gathered-same : (f f' : Findings) (xs xs' : List File) (ys ys' : List Held) → f ≡ f' → xs ≡ xs' → ys ≡ ys' → ◌≡◌ {A = Gathered} (record { found = f; files = xs; siblings = ys }) (record { found = f'; files = xs'; siblings = ys' })
gathered-same f f' xs xs' ys ys' a b c = rw (a, b, c) refl

gather_none : (h : Option ℕ) (g : Gathered) → gather_in h g no_module ≡ g
gather_none h g = gathered-same _ _ _ _ _ _ refl (append-nil g.files) (append-nil g.siblings)

gather_more : (h : Option ℕ) (m : Module) (ms : Modules) (g : Gathered) → gather_in h g (add_module m ms) ≡ gather_in h (gather_of h g m) ms
gather_more h m ms g =
    let k : ℕ = length g.files in
    let there : length (g.files ++ entries m k h) ≡ k + modules_within m = length-append g.files (entries m k h) ∙ ap (λ (n : ℕ). k + n) (entries-count m k h) in
    gathered-same _ _ _ _ _ _
    (judge_append (module_items m) (modules_items ms) g.found)
    (sym (append_assoc g.files (entries m k h) (entries_in ms (k + modules_within m) h)) ∙ ap (λ (n : ℕ). (g.files ++ entries m k h) ++ entries_in ms n h) (sym there))
    (sym (append_assoc g.siblings (helds m k h) (helds_in ms (k + modules_within m) h)) ∙ ap (λ (n : ℕ). (g.siblings ++ helds m k h) ++ helds_in ms n h) (sym there))

-- a module is whole: its file learns where its own declarations start
closed : (p own : ℕ) (h : Option ℕ) (s : List ℕ) (g : Gathered) (ms : Modules) (f f' : Findings) → f ≡ f' → ◌≡◌ {A = Gathered} (record { found = f; files = set (gather_in (Some (length g.files)) (opened p h s g) ms).files (length g.files) (file p h own); siblings = (gather_in (Some (length g.files)) (opened p h s g) ms).siblings }) (record { found = f'; files = g.files ++ file p h own ∷ entries_in ms (length g.files + 1) (Some (length g.files)); siblings = g.siblings ++ held p h s ∷ helds_in ms (length g.files + 1) (Some (length g.files)) })
closed p own h s g ms f f' e =
    let k : ℕ = length g.files in
    let there : length (g.files ++ file p h 0 ∷ []) ≡ k + 1 = length-append g.files (file p h 0 ∷ []) in
    gathered-same _ _ _ _ _ _ e
    (ap (λ (n : ℕ). set ((g.files ++ file p h 0 ∷ []) ++ entries_in ms n (Some k)) k (file p h own)) there ∙ ap (λ (l : List File). set l k (file p h own)) (append_assoc g.files (file p h 0 ∷ []) (entries_in ms (k + 1) (Some k))) ∙ set-append_seam g.files (file p h 0) (entries_in ms (k + 1) (Some k)) (file p h own))
    (ap (λ (n : ℕ). (g.siblings ++ held p h s ∷ []) ++ helds_in ms n (Some k)) there ∙ append_assoc g.siblings (held p h s ∷ []) (helds_in ms (k + 1) (Some k)))

-- what modules in a row gather comes behind what was gathered
kept_by : (h : Option ℕ) (g e : Gathered) (r : List ℕ) (o : Out Modules) → map_out (λ ms. gather_in h g ms) o ≡ read e r → (hs : List Held) × (e.siblings ≡ g.siblings ++ hs)
kept_by h g e r (read ms s) x =
    let y : gather_in h g ms ≡ e = cc in (helds_in ms (length g.files) h, ap (λ (z : Gathered). z.siblings) (sym y))
kept_by h g e r (fault p) x = let z : ◌≡◌ {A = ℕ} 0 1 = cc in absurd (omega arith)

module_told_over : (n d : ℕ) (one : List ℕ → Out Module) (pass : Option ℕ → List ℕ → Gathered → Out Gathered) → ((h : Option ℕ) → Tells (λ m g. gather_of h g m) one (pass h)) → (h : Option ℕ) → Tells (λ m g. gather_of h g m) (module_over n d one) (audit_module_over n d pass h)
module_told_over n d one pass t h bs g =
    let k : ℕ = length g.files in
    let p : ℕ = place n bs in
    share (fields n 16 bs) _ _ _ λ m r0 e0.
    share (text n r0) _ _ _ λ s r1 e1.
    let f1 : Findings = note_name p (identifier s) g.found in
    chain (listed n no_module add_module one (bit m 1) r1) _ (λ ms. gather_in (Some k) (opened p h s g) ms) _ _ _ (listed-told (λ m g. gather_of (Some k) g m) (λ ms g. gather_in (Some k) g ms) no_module add_module one (pass (Some k)) (gather_none (Some k)) (λ m ms g. gather_more (Some k) m ms g) (t (Some k)) n (bit m 1) r1 (opened p h s g)) λ ms r2 e2.
    let f2 : Findings = judge_all (modules_items ms) f1 in
    flat (audit_classes n d (bit m 2) r2 f2) _ _ ∙
    (chain (classes n d (bit m 2) r2) _ _ _ _ _ (classes_told_by n (one_class n d) (audit_class n d) (class-told n d) (bit m 2) r2 f2) λ cs r3 e3.
    let f3 : Findings = judge_all (classes_items cs) f2 in
    flat (audit_functions n d (bit m 4) r3 f3) _ _ ∙
    (chain (functions n d (bit m 4) r3) _ _ _ _ _ (functions-told n d (bit m 4) r3 f3) λ fs r4 e4.
    let f4 : Findings = judge_all (each_items function_items fs) f3 in
    chain (attributes n d (bit m 8) r4) _ _ _ _ _ (attributes-told n d (bit m 8) r4 f4) λ attrs r5 e5.
    ap (λ (x : Gathered). read x r5) (closed p (place n r2) h s g ms _ _ (sym (judge_append (modules_items ms) _ f1 ∙ judge_append (classes_items cs) _ f2 ∙ judge_append (each_items function_items fs) _ f3)))))

pub module-told : (n d : ℕ) (h : Option ℕ) → Tells (λ m g. gather_of h g m) (one_module n d) (audit_module n d h)
unfolding one_module audit_module
module-told n zero h bs g = refl
module-told n (suc d) h bs g = module_told_over n d (one_module n d) (audit_module n d) (module-told n d) h bs g

pub submodules_kept : (n d : ℕ) (h : Option ℕ) (b : Bool) (bs r : List ℕ) (g e : Gathered) → audit_list n (audit_module n d h) b bs g ≡ read e r → (hs : List Held) × (e.siblings ≡ g.siblings ++ hs)
submodules_kept n d h b bs r g e x =
    kept_by h g e r (listed n no_module add_module (one_module n d) b bs) (sym (listed-told (λ m g. gather_of h g m) (λ ms g. gather_in h g ms) no_module add_module (one_module n d) (audit_module n d h) (gather_none h) (λ m ms g. gather_more h m ms g) (module-told n d h) n b bs g) ∙ x)

end-told : (n : ℕ) (m : Module) (r : List ℕ) → audit_end n (gather_of None nothing m) r ≡ map_out gather_all (ended n m r)
end-told n m [] = refl
end-told n m (b ∷ r) = refl

version_told : (n p v : ℕ) (bs : List ℕ) (b : Bool) → cond b (bind (audit_module n deepest_allowed None bs nothing) (audit_end n)) (fault p) ≡ map_out gather_all (cond b (bind (one_module n deepest_allowed bs) (ended n)) (fault p))
version_told n p v bs true =
    chain (one_module n deepest_allowed bs) _ _ _ _ _ (module-told n deepest_allowed None bs nothing) λ m r e. end-told n m r
version_told n p v bs false = refl

pub audits_all : (bs : List ℕ) → audit bs ≡ map_out gather_all (model bs)
audits_all [] = refl
audits_all (v ∷ bs) = version_told (length (v ∷ bs)) (place (length (v ∷ bs)) (v ∷ bs)) v bs (eqb v 1)
