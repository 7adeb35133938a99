-- The verdict that the rules give of a tree is the one that comes of what reading has gathered.
use Rattle.std.proofs.Common.{◌≡◌, ℕ, ◌+◌, ◌≤◌, List, [], ◌∷◌, ◌++◌, map, length, drop, IsErrAnd, Some, None, vec_items, Option, Result, Vec, sym, refl, ap, ◌∙◌, subst, arith}
use Rattle.std.specs.declared.alloc.Global.{Global}
use Rattle.std.proofs.lemmas.Result.{err_from_is_err_and}
use Rattle.model.specs.declared.files.File.{File}
use Rattle.model.specs.declared.files.Listing.{Listing}
use Rattle.model.specs.declared.findings.Findings.{Findings}
use Rattle.model.specs.Steps.{file_of, gathered}
use Rattle.model.specs.Tree.{Module, Modules, pymodule, no_module, add_module}
use Rattle.model.specs.Read.{Out, read, fault, model}
use Rattle.model.specs.Rules.{least, places_of, broken_name, module_items}
use Rattle.model.specs.Files.{files, files_in, entries, entries_in, helds, modules_within}
use Rattle.model.specs.Laws.{Bytes}
use Rattle.model.specs.Audit.{Gathered, map_out, summary}
use Rattle.model.specs.Verdict.{Verdict, accepted, refused_at, module_place, root_name, broken_values, repeated_modules, empty_attributes, surplus, surplus_modules, surplus_in_file, surplus_in_files, modules_allowed, judged, judged_out, verdict}
use Rattle.model.proofs.Sized.{within_size}
use Rattle.walk.specs.Total.{Own, own_in}
use Rattle.walk.specs.Reached.{own_of}
use Rattle.walk.proofs.Reaching.{files-reached}
use Rattle.model.specs.Rules.{soonest}
use Rattle.verdict.specs.Judged.{root_named_of, own_surplus, files_surplus_of, file_place, surplus_in, verdict_by, files_of, Judges}
use Rattle.verdict.specs.declared.refusal.Refusal.{Refusal}
use Rattle.verdict.specs.Answers.{Says}
use Rattle.verdict.proofs.Roots.{soonest_append}

root-same : (m : Module) → root_name m ≡ root_named_of (helds m 0 None)
root-same (pymodule p s modules own classes functions attributes) = refl

append_map : {A B : Type 0} (f : A → B) (xs ys : List A) → map f (xs ++ ys) ≡ map f xs ++ map f ys
append_map f [] ys = refl
append_map f (x ∷ xs) ys = ap (λ (l : List _). f x ∷ l) (append_map f xs ys)

-- the files in short have the places of the files
mutual
  pub places_same : (m : Module) (k : ℕ) (h : Option ℕ) → map file_place (entries m k h) ≡ map module_place (files m)
  places_same (pymodule p s modules own classes functions attributes) k h =
      ap (λ (l : List ℕ). p ∷ l) (places_in_same modules (k + 1) (Some k))

  places_in_same : (ms : Modules) (k : ℕ) (h : Option ℕ) → map file_place (entries_in ms k h) ≡ map module_place (files_in ms)
  places_in_same no_module k h = refl
  places_in_same (add_module m ms) k h =
      append_map file_place (entries m k h) (entries_in ms (k + modules_within m) h) ∙ ap (λ (l : List ℕ). l ++ map file_place (entries_in ms (k + modules_within m) h)) (places_same m k h) ∙ ap (λ (l : List ℕ). map module_place (files m) ++ l) (places_in_same ms (k + modules_within m) h) ∙ sym (append_map module_place (files m) (files_in ms))

-- what files hold too much of, by their own declarations
abbrev owns_surplus : List Own → List ℕ
owns_surplus [] = []
owns_surplus (o ∷ os) = own_surplus o ++ owns_surplus os

in_short : (bs : List ℕ) (fs : List File) → files_surplus_of bs fs ≡ owns_surplus (map (own_in bs) fs)
in_short bs [] = refl
in_short bs (f ∷ fs) = ap (λ (l : List ℕ). own_surplus (own_in bs f) ++ l) (in_short bs fs)

in_full : (ms : List Module) → surplus_in_files ms ≡ owns_surplus (map own_of ms)
in_full [] = refl
in_full (pymodule p s modules own classes functions attributes ∷ ms) =
    ap (λ (l : List ℕ). surplus_in_file (pymodule p s modules own classes functions attributes) ++ l) (in_full ms)

surplus-same : (bs : List ℕ) → Bytes bs → (m : Module) → model bs ≡ read m [] → surplus m ≡ surplus_in bs (entries m 0 None)
surplus-same bs b m e =
    ap (λ (l : List ℕ). surplus_modules m ++ l) (in_full (files m) ∙ ap owns_surplus (sym (files-reached bs b m e)) ∙ sym (in_short bs (entries m 0 None))) ∙ ap (λ (l : List ℕ). drop modules_allowed l ++ files_surplus_of bs (entries m 0 None)) (sym (places_same m 0 None))

judged-same : (bs : List ℕ) → Bytes bs → (m : Module) → model bs ≡ read m [] → judged m ≡ verdict_by bs (summary m)
judged-same bs b m e =
    ap (λ (o : Option ℕ). refused_at 3 o (refused_at 4 (least (broken_values m)) (refused_at 5 (least (repeated_modules m)) (refused_at 6 (least (empty_attributes m)) (refused_at 7 (least (surplus m)) accepted))))) (sym (soonest_append (root_name m) (places_of broken_name (module_items m))) ∙ ap (λ (l : List ℕ). soonest (least l) (least (places_of broken_name (module_items m)))) (root-same m)) ∙ ap (λ (l : List ℕ). refused_at 3 (soonest (least (root_named_of (helds m 0 None))) (least (places_of broken_name (module_items m)))) (refused_at 4 (least (broken_values m)) (refused_at 5 (least (repeated_modules m)) (refused_at 6 (least (empty_attributes m)) (refused_at 7 (least l) accepted))))) (surplus-same bs b m e)

-- what reading has gathered tells the tree that was read
out_same : (bs : List ℕ) → Bytes bs → (g : Gathered) (o : Out Module) → model bs ≡ o → map_out summary o ≡ read g [] → (judged_out o ≡ verdict_by bs g) × (files_of o ≡ g.files)
out_same bs b g (read m r) e h =
    let x : summary m ≡ g = cc in
    let y : r ≡ [] = cc in
    (judged-same bs b m (e ∙ ap (λ (s : List ℕ). read m s) y) ∙ ap (verdict_by bs) x, ap (λ (z : Gathered). z.files) x)
out_same bs b g (fault p) e h = let z : ◌≡◌ {A = ℕ} 0 1 = cc in absurd (omega arith)

pub verdict_by_lem : (bs : List ℕ) → Bytes bs → (g : Gathered) → (length bs ≡ 0 → ⊥) → length bs ≤ 16384 → map_out summary (model bs) ≡ read g [] → (verdict bs ≡ verdict_by bs g) × (files_of (model bs) ≡ g.files)
verdict_by_lem bs b g z l h =
    let x = out_same bs b g (model bs) refl h in
    (within_size bs z l ∙ x.0, x.1)

module _ (bs : List ℕ) (b : Bytes bs) (z : length bs ≡ 0 → ⊥) (l : length bs ≤ 16384) (found : Findings) (list : Listing) (h : map_out summary (model bs) ≡ read (gathered found list) []) where
  pub accepts : verdict_by bs (gathered found list) ≡ accepted → (verdict bs ≡ accepted) × (map file_of (vec_items list.modules) ≡ files_of (model bs))
  accepts e =
      let v = verdict_by_lem bs b (gathered found list) z l h in
      (v.0 ∙ e, sym v.1)

  -- the exit of a `?` on a rule that is broken
  pub refuses : (r : Result (Vec File Global) Refusal) (e : Refusal) → IsErrAnd r (λ y. y ≡ e) → Says (verdict_by bs (gathered found list)) e → Judges bs r
  refuses r e d q =
      let v = verdict_by_lem bs b (gathered found list) z l h in
      let p = err_from_is_err_and r d in
      rw (p.1, p.2) (subst (λ (x : Verdict). Says x e) (sym v.0) q)
