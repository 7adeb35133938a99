-- What `local` answers is what the tree of the model says.
use Rattle.std.proofs.Common.{◌≡◌, ℕ, ◌<◌, ◌≤◌, Bool, true, false, cond, eqb, List, [], ◌∷◌, ◌++◌, length, get_or, IsErrAnd, Some, None, Option, Result, sym, refl, ap, ◌∙◌, subst, arith}
use lib.ListN.{length-map}
use Rattle.std.specs.Option.{option_map}
use Rattle.std.specs.List.{slice_get}
use Rattle.std.proofs.lemmas.List.{get_or-map}
use Rattle.std.proofs.lemmas.Option.{slice_get-get_or, slice_get_past}
use Rattle.std.proofs.lemmas.Result.{err_from_is_err_and}
use Rattle.model.specs.declared.files.File.{File}
use Rattle.model.specs.Tree.{Text, Module, pymodule}
use Rattle.model.specs.Read.{Out, read, fault, bind, place, one_module, ended, deepest_allowed, model}
use Rattle.model.specs.Laws.{Bytes}
use Rattle.model.specs.Files.{files, entries}
use Rattle.model.specs.Limits.{same_reference, occurs}
use Rattle.verdict.specs.Judged.{files_of}
use Rattle.walk.specs.Total.{own_in as declarations_in}
use Rattle.walk.specs.Reached.{own_of}
use Rattle.walk.specs.Collects.{uses_in, declared_in}
use Rattle.walk.proofs.Reaching.{files-reached}
use Rattle.chains.specs.Chains.{chains, own_names, own_in}
use Rattle.chains.proofs.Reaching.{modules-reached, chains-many, entries-many}
use Rattle.paths.specs.Paths.{join}
use Rattle.model.specs.declared.uses.Reference.{Reference as ReferenceOf}
use Rattle.references.specs.References.{Reference, pair_of, references, rest_of}
use Rattle.binding.specs.declared.names.Names.{Names}
use Rattle.binding.specs.Binding.{Binding, name_of, target_of}
use Rattle.binding.specs.Named.{name_held, name_among, bindings_held}
use Rattle.resolver.specs.declared.fault.Fault.{Fault as Unresolved}
use Rattle.resolver.specs.Answers as resolver
use Rattle.resolver.specs.Resolved.{Local, collected, local_from, local_by}
use Rattle.resolver.specs.Resolves.{Named, resolution_in}
use Rattle.session.specs.declared.fault.Fault.{Fault}
use Rattle.session.specs.declared.fault.Fault.TheVariants.{Resolver}
use Rattle.session.specs.Local.{uses_of, declared_of, local_in_of, local_at, refused, in_room, in_file, in_model, local_of, Tells, Answers, joined}
use Rattle.session.proofs.Counting.{as_many}

-- ---- a model is read to its end

ended-none : (n : ℕ) (m m' : Module) (s r : List ℕ) → ended n m' s ≡ read m r → r ≡ []
ended-none n m m' [] r h = cc
ended-none n m m' (b ∷ s) r h = let z : ◌≡◌ {A = ℕ} 0 1 = cc in absurd (omega arith)

bound-none : (n : ℕ) (o : Out Module) (m : Module) (r : List ℕ) → bind o (ended n) ≡ read m r → r ≡ []
bound-none n (read m' s) m r h = ended-none n m m' s r h
bound-none n (fault p) m r h = let z : ◌≡◌ {A = ℕ} 0 1 = cc in absurd (omega arith)

read_all : (bs : List ℕ) (m : Module) (r : List ℕ) → model bs ≡ read m r → r ≡ []
read_all [] m r h = let z : ◌≡◌ {A = ℕ} 0 1 = cc in absurd (omega arith)
read_all (v ∷ bs) m r h = go (eqb v 1) h
  where
    go : (c : Bool) → cond c (bind (one_module (length (v ∷ bs)) deepest_allowed bs) (ended (length (v ∷ bs)))) (fault (place (length (v ∷ bs)) (v ∷ bs))) ≡ read m r → r ≡ []
    go true k = bound-none (length (v ∷ bs)) (one_module (length (v ∷ bs)) deepest_allowed bs) m r k
    go false k = let z : ◌≡◌ {A = ℕ} 0 1 = cc in absurd (omega arith)

-- ---- the file with a number

many-names : (m : Module) → length (own_names m) ≡ length (entries m 0 None)
many-names m = length-map (chains m []) join ∙ chains-many m [] ∙ sym (entries-many m 0 None)

same-uses : (f : Module) → uses_in (own_of f) ≡ uses_of f
same-uses (pymodule p s modules own classes functions attributes) = refl

same-declared : (f : Module) → declared_in (own_of f) ≡ declared_of f
same-declared (pymodule p s modules own classes functions attributes) = refl

module _ (bs : List ℕ) (b : Bytes bs) (m : Module) (is : model bs ≡ read m []) (k : ℕ) (d : File) (lt : k < length (entries m 0 None)) where
  own_is : slice_get (own_names m) k ≡ Some (own_in bs (entries m 0 None) deepest_allowed k)
  own_is = slice_get-get_or (own_names m) k [] (omega (arith, many-names m)) ∙ ap Some (sym ((modules-reached bs b m is).names k))

  file-is : declarations_in bs (get_or (entries m 0 None) k d) ≡ own_of (get_or (files m) k m)
  file-is =
      sym (get_or-map (declarations_in bs) (entries m 0 None) k d (own_of m) lt)
      ∙ ap (λ l. get_or l k (own_of m)) (files-reached bs b m is)
      ∙ get_or-map own_of (files m) k m (own_of m) (omega (arith, as_many m))

  pub local-at : (r : Reference)
      → local_at m k r ≡ Some (local_by (own_in bs (entries m 0 None) deepest_allowed k) (declared_in (declarations_in bs (get_or (entries m 0 None) k d))) (uses_in (declarations_in bs (get_or (entries m 0 None) k d))) r)
  local-at r =
      let f = get_or (files m) k m in
      (λ i. local_in_of (own_is i) (slice_get-get_or (files m) k m (omega (arith, as_many m)) i) r)
      ∙ (λ i. Some (local_by (own_in bs (entries m 0 None) deepest_allowed k) (sym (ap declared_in file-is ∙ same-declared f) i) (sym (ap uses_in file-is ∙ same-uses f) i) r))

-- ---- no such file

no_file : (bs : List ℕ) (o : Out Module) (k : ℕ) (r : Reference) (room : ℕ) → length (files_of o) ≤ k → in_model o k r room ≡ refused 9 0
no_file bs (read m rest) k r room h = ap (λ x. in_file (local_in_of x (slice_get (files m) k) r) room) (slice_get_past (own_names m) k (omega (arith, many-names m)))
no_file bs (fault p) k r room h = refl

pub past_files : (bs : List ℕ) (fs : List File) (n k : ℕ) (r : Reference) (room : ℕ) → (length bs ≡ 0 → ⊥) → fs ≡ files_of (model bs) → n ≡ length fs → n ≤ k → local_of bs k r room ≡ refused 9 0
past_files [] fs n k r room z f e h = absurd (z refl)
past_files (v ∷ bs) fs n k r room z f e h = no_file (v ∷ bs) (model (v ∷ bs)) k r room (omega (arith, e, ap length f))

-- ---- a file that is there

module _ (bs : List ℕ) (fs : List File) (k : ℕ) (d : File) (r : Reference) (room : ℕ) (b : Bytes bs) (listed : fs ≡ files_of (model bs)) (lt : k < length fs) where
  abbrev here : Local
  here = local_by (own_in bs fs deepest_allowed k) (declared_in (declarations_in bs (get_or fs k d))) (uses_in (declarations_in bs (get_or fs k d))) r

  found : (o : Out Module) → model bs ≡ o → fs ≡ files_of o → in_model o k r room ≡ in_room here room
  found (read m rest) is l =
      let e = read_all bs m rest is in
      let is' : model bs ≡ read m [] = is ∙ ap (read m) e in
      ap (λ x. in_file x room) (subst (λ es. local_at m k r ≡ Some (local_by (own_in bs es deepest_allowed k) (declared_in (declarations_in bs (get_or es k d))) (uses_in (declarations_in bs (get_or es k d))) r)) (sym l)
      (local-at bs b m is' k d (subst (λ es. k < length es) l lt) r))
  found (fault p) is l = absurd (omega (arith, lt, ap length l))

  local-here : local_of bs k r room ≡ in_room here room
  local-here = go bs refl
    where
      go : (cs : List ℕ) → bs ≡ cs → local_of cs k r room ≡ in_room here room
      go [] e = found_none (ap model e)
        where
          found_none : model bs ≡ model [] → refused 8 0 ≡ in_room here room
          found_none h = absurd (omega (arith, lt, ap length (listed ∙ ap files_of h)))
      go (v ∷ cs) e = ap (λ o. in_model o k r room) (sym (ap model e)) ∙ found (model bs) refl listed

  -- refused by the resolver
  pub refused-here : (f : Unresolved) (x : Result ℕ Fault) (buffer : List ℕ) → resolver.Tells (resolution_in bs (get_or fs k d) (own_in bs fs deepest_allowed k)) (resolver.told f) → IsErrAnd x (λ y. y ≡ Resolver f) → Answers (local_of bs k r room) x buffer buffer
  refused-here f x buffer t e =
      let p = err_from_is_err_and x e in
      rw (p.1, p.2) (told_here (resolver.told f) t, refl)
    where
      told_here : (o : Option (ℕ × ℕ)) → resolver.Tells (resolution_in bs (get_or fs k d) (own_in bs fs deepest_allowed k)) o → Tells (local_of bs k r room) o
      told_here None h = tt
      told_here (Some y) h = local-here ∙ ap (λ z. in_room (local_from z (uses_in (declarations_in bs (get_or fs k d))) r) room) h

joined-among : (rs : List Reference) (b : List Binding) (r : Reference) → joined (name_among rs b r) (rest_of r.1) ≡ collected (cond (occurs same_reference r rs) (option_map (λ w. w ++ rest_of r.1) (name_of b (target_of r))) None)
joined-among rs b r = go (occurs same_reference r rs) (name_of b (target_of r))
  where
    go : (c : Bool) (o : Option Text) → joined (cond c o None) (rest_of r.1) ≡ collected (cond c (option_map (λ w. w ++ rest_of r.1) o) None)
    go true None = refl
    go true (Some w) = refl
    go false o = refl

-- named by the resolver
pub named_here : (bs : List ℕ) (fs : List File) (k : ℕ) (d : File) (q : ReferenceOf) (room : ℕ) → Bytes bs → fs ≡ files_of (model bs) → k < length fs
    → (n : Names) → Named (resolution_in bs (get_or fs k d) (own_in bs fs deepest_allowed k)) (uses_in (declarations_in bs (get_or fs k d))) n
    → in_room (joined (name_held n q) (rest_of (pair_of q).1)) room ≡ local_of bs k (pair_of q) room
named_here bs fs k d q room b listed lt n h =
    let us = uses_in (declarations_in bs (get_or fs k d)) in
    ap (λ l. in_room l room)
    (ap (λ o. joined o (rest_of (pair_of q).1)) (h.renames q)
    ∙ joined-among (references us) (bindings_held n) (pair_of q)
    ∙ ap (λ x. local_from x us (pair_of q)) (sym h.bindings))
    ∙ sym (local-here bs fs k d (pair_of q) room b listed lt)

pub no_model : (bs : List ℕ) (k : ℕ) (r : Reference) (room : ℕ) → length bs ≡ 0 → local_of bs k r room ≡ refused 8 0
no_model [] k r room h = refl
no_model (b ∷ bs) k r room h = absurd (omega arith)
