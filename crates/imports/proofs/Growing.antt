-- A set of lines that grows by one.
use Rattle.std.proofs.Common.{◌≡◌, ℕ, Bool, true, false, ◌||◌, List, [], ◌∷◌, map, length, vec_items, Ordering, Less, Equal, Greater, Vec, refl, ap, ◌∙◌, arith}
use Rattle.std.specs.BTreeSet.{BTreeSet}
use Rattle.std.specs.Ordering.{nat_cmp, match_ordering}
use Rattle.std.specs.Cmp.Lexicographic.{slice_cmp}
use Rattle.std.specs.List.{AllByRecursion}
use Rattle.std.specs.List.Sorted.{IsStrictlySortedBy}
use Rattle.std.specs.BTreeSet.{IsOrdered, insert_key, keys}
use Rattle.model.specs.Tree.{Text}
use Rattle.model.specs.Limits.{occurs, same_text_of}
use Rattle.imports.specs.Lines.{placed}
use Rattle.imports.specs.Held.{line_cmp, texts_in, begun, Puts}
use Rattle.imports.proofs.Texts.{occurs-placed}

or_nil : (a b : Bool) → (a || b) ≡ ((a || false) || b)
or_nil true b = refl
or_nil false b = refl

module _ {Y : Type 0} where
  -- the keys ascend by their texts

  all_map : (k : Vec ℕ Y) (ks : List (Vec ℕ Y)) → AllByRecursion (λ y. slice_cmp nat_cmp (vec_items k) (vec_items y) ≡ Less) ks → AllByRecursion (λ t. slice_cmp nat_cmp (vec_items k) t ≡ Less) (map vec_items ks)
  all_map k [] h = tt
  all_map k (j ∷ ks) h = (h.0, all_map k ks h.1)

  ascends-map : (ks : List (Vec ℕ Y)) → IsStrictlySortedBy line_cmp ks → IsStrictlySortedBy (slice_cmp nat_cmp) (map vec_items ks)
  unfolding IsStrictlySortedBy
  ascends-map [] h = tt
  ascends-map (k ∷ ks) h = (all_map k ks h.0, ascends-map ks h.1)

  -- a key comes to the place of its text

  placed_step : (o : Ordering) (k x : Vec ℕ Y) (xs ps : List (Vec ℕ Y)) (ts : List Text) → map vec_items ps ≡ ts
      → map vec_items (match_ordering o (k ∷ x ∷ xs) (x ∷ xs) (x ∷ ps)) ≡ match_ordering o (vec_items k ∷ map vec_items (x ∷ xs)) (map vec_items (x ∷ xs)) (vec_items x ∷ ts)
  placed_step Less k x xs ps ts e = refl
  placed_step Equal k x xs ps ts e = refl
  placed_step Greater k x xs ps ts e = ap (λ rest. vec_items x ∷ rest) e

  insert_key-placed : (ks : List (Vec ℕ Y)) (k : Vec ℕ Y) → map vec_items (insert_key line_cmp ks k) ≡ placed (vec_items k) (map vec_items ks)
  insert_key-placed [] k = refl
  insert_key-placed (x ∷ xs) k =
      placed_step (slice_cmp nat_cmp (vec_items k) (vec_items x)) k x xs (insert_key line_cmp xs k) (placed (vec_items k) (map vec_items xs)) (insert_key-placed xs k)

module _ {Y : Type 0} where
  pub puts_line : (s n : BTreeSet (Vec ℕ Y)) (k : Vec ℕ Y) → (length (vec_items k) ≡ 0 → ⊥) → keys n ≡ insert_key line_cmp (keys s) k → IsOrdered line_cmp n → Puts s (vec_items k) n
  puts_line s n k some put after h = (
    after,
    λ t. ap (λ ks. occurs same_text_of t (map vec_items ks)) put ∙ ap (occurs same_text_of t) (insert_key-placed (keys s) k) ∙ occurs-placed t (vec_items k) (texts_in s) ∙ begins (vec_items k) t some,
  )
    where
      begins : (x : Text) (t : Text) → (length x ≡ 0 → ⊥) → (same_text_of t x || occurs same_text_of t (texts_in s)) ≡ (occurs same_text_of t (begun x) || occurs same_text_of t (texts_in s))
      begins [] t more = absurd (more refl)
      begins (c ∷ cs) t more = or_nil (same_text_of t (c ∷ cs)) (occurs same_text_of t (texts_in s))

  pub puts_none : (s : BTreeSet (Vec ℕ Y)) (x : Text) → length x ≡ 0 → Puts s x s
  puts_none s [] l h = (h, λ t. refl)
  puts_none s (c ∷ cs) l h = absurd (omega arith)

  pub texts_ascend : (s : BTreeSet (Vec ℕ Y)) → IsOrdered line_cmp s → IsStrictlySortedBy (slice_cmp nat_cmp) (texts_in s)
  texts_ascend s h = ascends-map (keys s) h
