-- Texts in the order of their bytes, each once.
use Rattle.std.proofs.Common.{◌≡◌, suc, Bool, true, false, ◌||◌, ◌⊎◌, List, [], ◌∷◌, length, Ordering, Less, Equal, Greater, sym, refl, ap, ◌∙◌, inl, inr}
use Rattle.std.specs.Ordering.{ordering_reverse, is_eq, nat_cmp, match_ordering}
use Rattle.std.specs.Cmp.{IsTotalOrder, nat_cmp_total}
use Rattle.std.specs.Cmp.Lexicographic.{slice_cmp, lists_total}
use Rattle.std.specs.List.{AllByRecursion, list_any}
use Rattle.std.specs.List.Sorted.{IsStrictlySortedBy}
use Rattle.std.proofs.lemmas.Map.Lookups.{btree_set_from_contains}
use Rattle.std.proofs.lemmas.Bool.{false≢true, or_cases, or_left, or_right, or_from, or_parts}
use Rattle.model.specs.Tree.{Text}
use Rattle.model.specs.Limits.{occurs, same_text_of}
use Rattle.references.proofs.Ties.{text_ties, text_itself, text-is}
use Rattle.references.proofs.Listed.{or_swap}
use Rattle.binding.specs.Laws.{Member, Exactly}
use Rattle.imports.specs.Lines.{placed, sorted_texts}
use Rattle.imports.specs.Laws.{Apart}

abbrev texts : IsTotalOrder (slice_cmp nat_cmp)
texts = lists_total nat_cmp_total

pub flips : (x y : Text) → slice_cmp nat_cmp x y ≡ Greater → slice_cmp nat_cmp y x ≡ Less
flips x y e = texts.antisymm y x ∙ ap ordering_reverse e

pub equal_is : (x y : Text) → slice_cmp nat_cmp x y ≡ Equal → x ≡ y
equal_is x y e = text-is x y (sym (text_ties x y) ∙ ap is_eq e)

-- what is below is another
pub below_apart : (x y : Text) → slice_cmp nat_cmp x y ≡ Less → x ≡ y → ⊥
below_apart x y less e =
    false≢true (ap is_eq (sym less) ∙ text_ties x y ∙ ap (same_text_of x) (sym e) ∙ text_itself x)

pub below_through : (x y z : Text) → slice_cmp nat_cmp x y ≡ Less → slice_cmp nat_cmp y z ≡ Less → slice_cmp nat_cmp x z ≡ Less
below_through x y z = texts.trans x y z

-- ---- in order

all_weaker : (P Q : Text → Type 0) → ((x : Text) → P x → Q x) → (xs : List Text) → AllByRecursion P xs → AllByRecursion Q xs
all_weaker P Q f [] h = tt
all_weaker P Q f (x ∷ xs) h = (f x h.0, all_weaker P Q f xs h.1)

module _ (P : Text → Type 0) (t : Text) (here : P t) where
  all-step : (o : Ordering) (s : Text) (ss ps : List Text) → AllByRecursion P (s ∷ ss) → AllByRecursion P ps → AllByRecursion P (match_ordering o (t ∷ s ∷ ss) (s ∷ ss) (s ∷ ps))
  all-step Less s ss ps h more = (here, h)
  all-step Equal s ss ps h more = h
  all-step Greater s ss ps h more = (h.0, more)

  all_placed : (ss : List Text) → AllByRecursion P ss → AllByRecursion P (placed t ss)
  all_placed [] h = (here, tt)
  all_placed (s ∷ ss) h = all-step (slice_cmp nat_cmp t s) s ss (placed t ss) h (all_placed ss h.1)

ascends-step : (t s : Text) (ss : List Text) (o : Ordering) → slice_cmp nat_cmp t s ≡ o → IsStrictlySortedBy (slice_cmp nat_cmp) (s ∷ ss) → IsStrictlySortedBy (slice_cmp nat_cmp) (placed t ss)
    → IsStrictlySortedBy (slice_cmp nat_cmp) (match_ordering o (t ∷ s ∷ ss) (s ∷ ss) (s ∷ placed t ss))
unfolding IsStrictlySortedBy
ascends-step t s ss Less e h more =
    ((e, all_weaker (λ y. slice_cmp nat_cmp s y ≡ Less) (λ y. slice_cmp nat_cmp t y ≡ Less) (λ y below. below_through t s y e below) ss h.0), h)
ascends-step t s ss Equal e h more = h
ascends-step t s ss Greater e h more = (all_placed (λ y. slice_cmp nat_cmp s y ≡ Less) t (flips t s e) ss h.0, more)

ascends-placed : (t : Text) (ss : List Text) → IsStrictlySortedBy (slice_cmp nat_cmp) ss → IsStrictlySortedBy (slice_cmp nat_cmp) (placed t ss)
unfolding IsStrictlySortedBy
ascends-placed t [] h = (tt, tt)
ascends-placed t (s ∷ ss) h = ascends-step t s ss (slice_cmp nat_cmp t s) refl h (ascends-placed t ss h.1)

pub ascends-sorted : (ts : List Text) → IsStrictlySortedBy (slice_cmp nat_cmp) (sorted_texts ts)
unfolding IsStrictlySortedBy
ascends-sorted [] = tt
ascends-sorted (t ∷ ts) = ascends-placed t (sorted_texts ts) (ascends-sorted ts)

-- ---- with the members that there are

or_again : (a b : Bool) → (a || b) ≡ (a || (a || b))
or_again true b = refl
or_again false b = refl

occurs-step : (q t s : Text) (ss ps : List Text) (o : Ordering) → slice_cmp nat_cmp t s ≡ o → occurs same_text_of q ps ≡ (same_text_of q t || occurs same_text_of q ss)
    → occurs same_text_of q (match_ordering o (t ∷ s ∷ ss) (s ∷ ss) (s ∷ ps)) ≡ (same_text_of q t || occurs same_text_of q (s ∷ ss))
occurs-step q t s ss ps Less e h = refl
occurs-step q t s ss ps Equal e h =
    or_again (same_text_of q s) (occurs same_text_of q ss) ∙ ap (λ x. same_text_of q x || (same_text_of q s || occurs same_text_of q ss)) (sym (equal_is t s e))
occurs-step q t s ss ps Greater e h =
    ap (λ b. same_text_of q s || b) h ∙ or_swap (same_text_of q s) (same_text_of q t) (occurs same_text_of q ss)

pub occurs-placed : (q t : Text) (ss : List Text) → occurs same_text_of q (placed t ss) ≡ (same_text_of q t || occurs same_text_of q ss)
occurs-placed q t [] = refl
occurs-placed q t (s ∷ ss) = occurs-step q t s ss (placed t ss) (slice_cmp nat_cmp t s) refl (occurs-placed q t ss)

pub occurs-sorted : (q : Text) (ts : List Text) → occurs same_text_of q (sorted_texts ts) ≡ occurs same_text_of q ts
occurs-sorted q [] = refl
occurs-sorted q (t ∷ ts) = occurs-placed q t (sorted_texts ts) ∙ ap (λ b. same_text_of q t || b) (occurs-sorted q ts)

-- ---- one list

-- the texts that the order ties with a text are those that are the same
tied_occurs : (ts : List Text) (q : Text) → list_any (λ t. is_eq (slice_cmp nat_cmp q t)) ts ≡ occurs same_text_of q ts
tied_occurs [] q = refl
tied_occurs (t ∷ ts) q = λ i. text_ties q t i || tied_occurs ts q i

pub one_list : (ss ts : List Text) → IsStrictlySortedBy (slice_cmp nat_cmp) ss → IsStrictlySortedBy (slice_cmp nat_cmp) ts → ((q : Text) → occurs same_text_of q ss ≡ occurs same_text_of q ts) → ss ≡ ts
one_list ss ts h k same =
    btree_set_from_contains texts (record { keys = ss }) (record { keys = ts }) h k (λ q. tied_occurs ss q ∙ same q ∙ sym (tied_occurs ts q)) equal_is

-- ---- members

pub member_occurs : (t : Text) (ts : List Text) → occurs same_text_of t ts ≡ true → Member t ts
member_occurs t [] h = absurd (false≢true h)
member_occurs t (s ∷ ss) h = go (member_occurs t ss) (or_cases (same_text_of t s) (occurs same_text_of t ss) h)
  where
    go : (occurs same_text_of t ss ≡ true → Member t ss) → (same_text_of t s ≡ true) ⊎ (occurs same_text_of t ss ≡ true) → Member t (s ∷ ss)
    go later (inl here) = inl (text-is t s here)
    go later (inr there) = inr (later there)

pub occurs_member : (t : Text) (ts : List Text) → Member t ts → occurs same_text_of t ts ≡ true
occurs_member t [] m = absurd m
occurs_member t (s ∷ ss) (inl e) = or_left (same_text_of t s) (occurs same_text_of t ss) (ap (same_text_of t) (sym e) ∙ text_itself t)
occurs_member t (s ∷ ss) (inr m) = or_right (same_text_of t s) (occurs same_text_of t ss) (occurs_member t ss m)

pub members-sorted : (ts : List Text) (t : Text) → Exactly (Member t (sorted_texts ts)) (Member t ts)
members-sorted ts t = (
  (λ m. member_occurs t ts (sym (occurs-sorted t ts) ∙ occurs_member t (sorted_texts ts) m)),
  (λ m. member_occurs t (sorted_texts ts) (occurs-sorted t ts ∙ occurs_member t ts m)),
)

-- ---- as many, where all differ

length-step : (t s : Text) (ss ps : List Text) (o : Ordering) → slice_cmp nat_cmp t s ≡ o → same_text_of t s ≡ false → length ps ≡ suc (length ss)
    → length (match_ordering o (t ∷ s ∷ ss) (s ∷ ss) (s ∷ ps)) ≡ suc (suc (length ss))
length-step t s ss ps Less e other h = refl
length-step t s ss ps Equal e other h = absurd (false≢true (sym other ∙ sym (text_ties t s) ∙ ap is_eq e))
length-step t s ss ps Greater e other h = ap suc h

length-placed : (t : Text) (ss : List Text) → occurs same_text_of t ss ≡ false → length (placed t ss) ≡ suc (length ss)
length-placed t [] other = refl
length-placed t (s ∷ ss) other =
    let parts = or_parts (same_text_of t s) (occurs same_text_of t ss) other in
    length-step t s ss (placed t ss) (slice_cmp nat_cmp t s) refl parts.0 (length-placed t ss parts.1)

pub another : (t s : Text) → (t ≡ s → ⊥) → same_text_of t s ≡ false
another t s n = go (same_text_of t s) refl
  where
    go : (b : Bool) → same_text_of t s ≡ b → b ≡ false
    go true e = absurd (n (text-is t s e))
    go false e = refl

none-occurs : (t : Text) (ss : List Text) → AllByRecursion (λ s. t ≡ s → ⊥) ss → occurs same_text_of t ss ≡ false
none-occurs t [] h = refl
none-occurs t (s ∷ ss) h = or_from (same_text_of t s) (occurs same_text_of t ss) (another t s h.0) (none-occurs t ss h.1)

pub length-sorted : (ts : List Text) → Apart ts → length (sorted_texts ts) ≡ length ts
length-sorted [] h = refl
length-sorted (t ∷ ts) h =
    length-placed t (sorted_texts ts) (occurs-sorted t ts ∙ none-occurs t ts h.0) ∙ ap suc (length-sorted ts h.1)
