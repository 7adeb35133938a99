-- What references are called: names without dots, which tell module and root.
use Rattle.std.proofs.Common.{◌≡◌, ℕ, Bool, true, false, cond, eqb, ◌⊎◌, List, [], ◌∷◌, ◌++◌, map, is_some, Some, None, Option, sym, refl, ap, ◌∙◌, subst, inl, inr, arith}
use Rattle.std.specs.List.{AllByRecursion}
use mathlib.Core.List.Memᴰ
use mathlib.Core.List.{Memᴰ}
use Rattle.std.specs.Option.{option_map}
use Rattle.text.proofs.Each.{each_weaker, each-map}
use Rattle.std.proofs.lemmas.List.{append-nil, append_cancel_left}
use Rattle.std.proofs.lemmas.Bool.{cond-true, cond-false, eqb-true, false≢true}
use Rattle.text.specs.Names.{spelled, Identifier}
use Rattle.model.specs.Tree.{Text}
use Rattle.model.specs.Uses.{Use, Declared}
use Rattle.model.specs.Limits.{same_text_of}
use Rattle.paths.specs.Paths.{first_part}
use Rattle.paths.specs.Laws.{NoDot}
use Rattle.paths.proofs.Names.{first_of, first_alone}
use Rattle.references.specs.References.{Reference, reference_of, references, root_of, rest_of, name_of}
use Rattle.references.proofs.Ties.{text_itself}
use Rattle.references.proofs.Listed.{lists_references}
use Rattle.references.proofs.Roots.{root-rest}
use Rattle.binding.specs.Binding.{Target, Binding, by_number, find, target_of, local_name, name_of as name_for}
use Rattle.binding.specs.Laws.{Member, Exactly, Tells}
use Rattle.loaded.specs.Laws.{Shaped}
use Rattle.loaded.proofs.Spelling.{identifier-spelled, spelled_no_dot}

-- ---- what holds of the uses holds of the references

module _ (P : Reference → Type 0) where
  of_member : (us : List Use) → AllByRecursion (λ u. P (reference_of u)) us → (r : Reference) → Memᴰ r (map reference_of us) → P r
  of_member [] h r m = elim m [ ]
  of_member (u ∷ us) h r m = go (of_member us h.1 r) (Memᴰ.cases_cons m)
    where
      go : (Memᴰ r (map reference_of us) → P r) → (r ≡ reference_of u) ⊎ Memᴰ r (map reference_of us) → P r
      go later (inl e) = subst P (sym e) h.0
      go later (inr there) = later there

  of_members : (rs : List Reference) → ((r : Reference) → Memᴰ r rs → P r) → AllByRecursion P rs
  of_members [] f = tt
  of_members (r ∷ rs) f = (f r (Memᴰ.head refl), of_members rs (λ s m. f s (Memᴰ.tail m)))

  pub of_references : (us : List Use) → AllByRecursion (λ u. P (reference_of u)) us → AllByRecursion P (references us)
  of_references us h = of_members (references us) (λ r m. of_member us h r ((lists_references us).within r m))

-- ---- what holds of each name that is found holds of each binding's

module _ (P : Text → Type 0) where
  pub all_found : (b : List Binding) → ((w : Text) (t : Target) → find b w ≡ Some t → P w) → AllByRecursion (λ e. P e.name) b
  all_found [] f = tt
  all_found (e ∷ b) f = (f e.name e.target (cond-true (same_text_of e.name e.name) _ _ (text_itself e.name)), all_found b later)
    where
      later : (w : Text) (t : Target) → find b w ≡ Some t → P w
      later w t h = go (same_text_of w e.name) refl
        where
          go : (c : Bool) → same_text_of w e.name ≡ c → P w
          go true k = f w e.target (cond-true (same_text_of w e.name) _ _ k)
          go false k = f w t (cond-false (same_text_of w e.name) _ _ k ∙ h)

-- ---- a name in front of a rest

first-before : (w a : Text) → NoDot w → first_part (w ++ rest_of a) ≡ w
first-before w [] h = ap first_part (append-nil w) ∙ first_alone w h
first-before w (b ∷ a) h = go (eqb b 46) refl (first-before w a h)
  where
    go : (c : Bool) → eqb b 46 ≡ c → first_part (w ++ rest_of a) ≡ w → first_part (w ++ cond c (b ∷ a) (rest_of a)) ≡ w
    go true k more = ap (λ x. first_part (w ++ x ∷ a)) (eqb-true b 46 k) ∙ first_of w a h
    go false k more = more

-- ---- the names of a file

module _ (own : Text) (ds : List Declared) (us : List Use) (b : List Binding) (shape : Shaped own ds us) (tells : Tells by_number own (map name_of ds) (references us) b) where
  found-spelled : (w : Text) (t : Target) → find b w ≡ Some t → spelled w ≡ true
  found-spelled = tells.shaped
      (each-map (λ d. spelled d ≡ true) name_of ds (each_weaker (λ d. Identifier (name_of d)) (λ d. spelled (name_of d) ≡ true) (λ d. identifier-spelled (name_of d)) ds shape.declared))
      (of_references (λ r. spelled (target_of r).1 ≡ true) us
      (each_weaker (λ u. Identifier (root_of u.name)) (λ u. spelled (root_of u.name) ≡ true) (λ u. identifier-spelled (root_of u.name)) us shape.roots))

  found-undotted : (w : Text) (t : Target) → find b w ≡ Some t → NoDot w
  found-undotted w t h = spelled_no_dot w (found-spelled w t h)

  pub all-spelled : AllByRecursion (λ e. spelled e.name ≡ true) b
  all-spelled = all_found (λ w. spelled w ≡ true) b found-spelled

  pub all-undotted : AllByRecursion (λ e. NoDot e.name) b
  all-undotted = all_found NoDot b found-undotted

  pub has_name : (r : Reference) → Member r (references us) → is_some (local_name b r) ≡ true
  has_name r m = go (name_for b (target_of r)) (tells.named r m)
    where
      go : (o : Option Text) → is_some o ≡ true → is_some (option_map (λ w. w ++ rest_of r.1) o) ≡ true
      go None e = absurd (false≢true e)
      go (Some w) e = refl

  -- the bound name stands before the first dot, and the rest of the attribute behind it
  parted : {C : Type 0} (r : Reference) (v : Text) → local_name b r ≡ Some v → (name_for b (target_of r) ≡ Some (first_part v) → v ≡ first_part v ++ rest_of r.1 → C) → C
  parted {C} r v e more = go (name_for b (target_of r)) refl e
    where
      go : (o : Option Text) → name_for b (target_of r) ≡ o → option_map (λ w. w ++ rest_of r.1) o ≡ Some v → C
      go None is k = let z : ◌≡◌ {A = ℕ} 0 1 = cc in absurd (omega arith)
      go (Some w) is k =
          let whole : w ++ rest_of r.1 ≡ v = cc in
          let front : first_part v ≡ w = ap first_part (sym whole) ∙ first-before w r.1 (found-undotted w (target_of r) (tells.lawful.bound w (target_of r) is)) in
          more (is ∙ ap Some (sym front)) (sym whole ∙ ap (λ x. x ++ rest_of r.1) (sym front))

  module _ (r s : Reference) (mr : Member r (references us)) (ms : Member s (references us)) (v w : Text) (rv : local_name b r ≡ Some v) (sw : local_name b s ≡ Some w) where
    -- names that begin alike are of one target
    one-target : first_part v ≡ first_part w → target_of r ≡ target_of s
    one-target e = parted r v rv λ nr _. parted s w sw λ ns _. (tells.same r s mr ms).0 (nr ∙ ap Some e ∙ sym ns)

    pub same-front : Exactly (first_part v ≡ first_part w) ((r.0 ≡ s.0) × (root_of r.1 ≡ root_of s.1))
    same-front = (to, from)
      where
        to : first_part v ≡ first_part w → (r.0 ≡ s.0) × (root_of r.1 ≡ root_of s.1)
        to e = let t = one-target e in (ap (λ (x : Target). x.0) t, ap (λ (x : Target). x.1) t)

        from : (r.0 ≡ s.0) × (root_of r.1 ≡ root_of s.1) → first_part v ≡ first_part w
        from e =
            let t : target_of r ≡ target_of s = λ i. (e.0 i, e.1 i) in
            parted r v rv λ nr _. parted s w sw λ ns _.
            let z : Some (first_part v) ≡ Some (first_part w) = sym nr ∙ ap (name_for b) t ∙ ns in
            cc

    pub same_whole : Exactly (v ≡ w) (r ≡ s)
    same_whole = (to, from)
      where
        to : v ≡ w → r ≡ s
        to e =
            let t = one-target (ap first_part e) in
            parted r v rv λ _ vr. parted s w sw λ _ ws.
            let rests : rest_of r.1 ≡ rest_of s.1 = append_cancel_left (first_part v) (rest_of r.1) (rest_of s.1) (sym vr ∙ e ∙ ws ∙ ap (λ x. first_part x ++ rest_of s.1) (sym e)) in
            let names : r.1 ≡ s.1 = sym (root-rest r.1) ∙ (λ i. (t i).1 ++ rests i) ∙ root-rest s.1 in
            λ i. ((t i).0, names i)

        from : r ≡ s → v ≡ w
        from e = let z : Some v ≡ Some w = sym rv ∙ ap (local_name b) e ∙ sw in cc
