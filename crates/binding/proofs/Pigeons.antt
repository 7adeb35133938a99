-- Different things that all lie in a list are at most as many as the list has.
use Rattle.std.proofs.Common.{◌≡◌, suc, ◌≤◌, List, [], ◌∷◌, length, sym, refl, ap, ◌∙◌, inl, inr, arith}
use Rattle.std.specs.List.{AllByRecursion}
use Rattle.binding.specs.Laws.{Member}

module _ {A : Type 0} where
  abbrev pub Apart : List A → Type 0
  Apart [] = Unit {0}
  Apart (x ∷ xs) = AllByRecursion (λ y. y ≡ x → ⊥) xs × Apart xs

  removed : (x : A) (ys : List A) → Member x ys → List A
  removed x [] m = absurd m
  removed x (y ∷ ys) (inl e) = ys
  removed x (y ∷ ys) (inr m) = y ∷ removed x ys m

  fewer : (x : A) (ys : List A) (m : Member x ys) → suc (length (removed x ys m)) ≡ length ys
  unfolding removed
  fewer x [] m = absurd m
  fewer x (y ∷ ys) (inl e) = refl
  fewer x (y ∷ ys) (inr m) = ap suc (fewer x ys m)

  kept : (x : A) (ys : List A) (m : Member x ys) (z : A) → (z ≡ x → ⊥) → Member z ys → Member z (removed x ys m)
  unfolding removed
  kept x [] m z ne h = absurd m
  kept x (y ∷ ys) (inl e) z ne (inl d) = absurd (ne (d ∙ sym e))
  kept x (y ∷ ys) (inl e) z ne (inr h) = h
  kept x (y ∷ ys) (inr m) z ne (inl d) = inl d
  kept x (y ∷ ys) (inr m) z ne (inr h) = inr (kept x ys m z ne h)

  all_kept : (x : A) (ys : List A) (m : Member x ys) (zs : List A) → AllByRecursion (λ z. z ≡ x → ⊥) zs → AllByRecursion (λ z. Member z ys) zs → AllByRecursion (λ z. Member z (removed x ys m)) zs
  all_kept x ys m [] ne h = tt
  all_kept x ys m (z ∷ zs) ne h = (kept x ys m z ne.0 h.0, all_kept x ys m zs ne.1 h.1)

  pub pigeons : (xs ys : List A) → Apart xs → AllByRecursion (λ x. Member x ys) xs → length xs ≤ length ys
  pigeons [] ys d h = omega arith
  pigeons (x ∷ xs) ys d h =
      let m = h.0 in
      let f = fewer x ys m in
      let r = pigeons xs (removed x ys m) d.1 (all_kept x ys m xs d.0 h.1) in
      omega arith
