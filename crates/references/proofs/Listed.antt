-- The list of references: in order, with the members that it shall have, and no other list is so.
use Rattle.std.proofs.Common.{◌≡◌, Bool, true, false, ◌||◌, ◌⊎◌, List, [], ◌∷◌, map, Ordering, Less, Equal, Greater, sym, refl, ap, ◌∙◌, inl, inr}
use mathlib.Core.List.Memᴰ
use mathlib.Core.List.{Memᴰ}
use Rattle.std.specs.Ordering.{ordering_reverse, is_eq, match_ordering}
use Rattle.std.specs.Cmp.{IsTotalOrder, nat_cmp_total, on_total, then_total}
use Rattle.std.specs.List.{AllByRecursion, list_any}
use Rattle.std.specs.List.Sorted.{IsStrictlySortedBy}
use Rattle.std.proofs.lemmas.Map.Lookups.{btree_set_from_contains}
use Rattle.std.proofs.lemmas.Bool.{false≢true}
use Rattle.model.specs.Limits.{occurs, same_reference}
use Rattle.model.specs.Uses.{Use}
use Rattle.references.specs.References.{Reference, order, placed, sorted, reference_of, references}
use Rattle.references.specs.Laws.{Lists}
use Rattle.references.proofs.Ties.{order_ties, order_equal, same_itself, same-is}
use Rattle.std.specs.Cmp.Lexicographic.{lists_total}

-- ---- the order is total

abbrev texts : IsTotalOrder order
texts = then_total (on_total (λ (x : Reference). x.0) (lists_total nat_cmp_total)) (on_total (λ (x : Reference). x.1) (lists_total nat_cmp_total))

flips : (x y : Reference) → order x y ≡ Greater → order y x ≡ Less
flips x y e = texts.antisymm y x ∙ ap ordering_reverse e

-- ---- one more

all_weaker : (P Q : Reference → Type 0) → ((x : Reference) → P x → Q x) → (xs : List Reference) → AllByRecursion P xs → AllByRecursion Q xs
all_weaker P Q f [] h = tt
all_weaker P Q f (x ∷ xs) h = (f x h.0, all_weaker P Q f xs h.1)

module _ (P : Reference → Type 0) (r : Reference) (here : P r) where
  all-step : (o : Ordering) (s : Reference) (ss ps : List Reference) → AllByRecursion P (s ∷ ss) → AllByRecursion P ps → AllByRecursion P (match_ordering o (r ∷ s ∷ ss) (s ∷ ss) (s ∷ ps))
  all-step Less s ss ps h more = (here, h)
  all-step Equal s ss ps h more = h
  all-step Greater s ss ps h more = (h.0, more)

  all_placed : (ss : List Reference) → AllByRecursion P ss → AllByRecursion P (placed r ss)
  all_placed [] h = (here, tt)
  all_placed (s ∷ ss) h = all-step (order r s) s ss (placed r ss) h (all_placed ss h.1)

ascends-step : (r s : Reference) (ss : List Reference) (o : Ordering) → order r s ≡ o → IsStrictlySortedBy order (s ∷ ss) → IsStrictlySortedBy order (placed r ss)
    → IsStrictlySortedBy order (match_ordering o (r ∷ s ∷ ss) (s ∷ ss) (s ∷ placed r ss))
unfolding IsStrictlySortedBy
ascends-step r s ss Less e h more =
    ((e, all_weaker (λ y. order s y ≡ Less) (λ y. order r y ≡ Less) (λ y below. texts.trans r s y e below) ss h.0), h)
ascends-step r s ss Equal e h more = h
ascends-step r s ss Greater e h more = (all_placed (λ y. order s y ≡ Less) r (flips r s e) ss h.0, more)

ascends-placed : (r : Reference) (ss : List Reference) → IsStrictlySortedBy order ss → IsStrictlySortedBy order (placed r ss)
unfolding IsStrictlySortedBy
ascends-placed r [] h = (tt, tt)
ascends-placed r (s ∷ ss) h = ascends-step r s ss (order r s) refl h (ascends-placed r ss h.1)

pub ascends-sorted : (rs : List Reference) → IsStrictlySortedBy order (sorted rs)
unfolding IsStrictlySortedBy
ascends-sorted [] = tt
ascends-sorted (r ∷ rs) = ascends-placed r (sorted rs) (ascends-sorted rs)

or_again : (a b : Bool) → (a || b) ≡ (a || (a || b))
or_again true b = refl
or_again false b = refl

pub or_swap : (a b c : Bool) → (a || (b || c)) ≡ (b || (a || c))
or_swap true true c = refl
or_swap true false c = refl
or_swap false b c = refl

occurs-step : (q r s : Reference) (ss ps : List Reference) (o : Ordering) → order r s ≡ o → occurs same_reference q ps ≡ (same_reference q r || occurs same_reference q ss)
    → occurs same_reference q (match_ordering o (r ∷ s ∷ ss) (s ∷ ss) (s ∷ ps)) ≡ (same_reference q r || occurs same_reference q (s ∷ ss))
occurs-step q r s ss ps Less e h = refl
occurs-step q r s ss ps Equal e h =
    or_again (same_reference q s) (occurs same_reference q ss) ∙ ap (λ x. same_reference q x || (same_reference q s || occurs same_reference q ss)) (sym (order_equal r s e))
occurs-step q r s ss ps Greater e h =
    ap (λ b. same_reference q s || b) h ∙ or_swap (same_reference q s) (same_reference q r) (occurs same_reference q ss)

occurs-placed : (q r : Reference) (ss : List Reference) → occurs same_reference q (placed r ss) ≡ (same_reference q r || occurs same_reference q ss)
occurs-placed q r [] = refl
occurs-placed q r (s ∷ ss) = occurs-step q r s ss (placed r ss) (order r s) refl (occurs-placed q r ss)

pub occurs-sorted : (q : Reference) (rs : List Reference) → occurs same_reference q (sorted rs) ≡ occurs same_reference q rs
occurs-sorted q [] = refl
occurs-sorted q (r ∷ rs) = occurs-placed q r (sorted rs) ∙ ap (λ b. same_reference q r || b) (occurs-sorted q rs)

-- ---- one list

-- the keys that an order ties with a reference are those that are the same
pub tied_occurs : (rs : List Reference) (q : Reference) → list_any (λ r. is_eq (order q r)) rs ≡ occurs same_reference q rs
tied_occurs [] q = refl
tied_occurs (r ∷ rs) q = λ i. order_ties q r i || tied_occurs rs q i

pub one_list : (rs ss : List Reference) → IsStrictlySortedBy order rs → IsStrictlySortedBy order ss → ((q : Reference) → occurs same_reference q rs ≡ occurs same_reference q ss) → rs ≡ ss
one_list rs ss h k same =
    btree_set_from_contains texts (record { keys = rs }) (record { keys = ss }) h k (λ q. tied_occurs rs q ∙ same q ∙ sym (tied_occurs ss q)) order_equal

-- ---- the law

or_from : (a b : Bool) → (a || b) ≡ true → (a ≡ true) ⊎ (b ≡ true)
or_from true b e = inl refl
or_from false b e = inr e

or_left : (a b : Bool) → a ≡ true → (a || b) ≡ true
or_left true b e = refl
or_left false b e = absurd (false≢true e)

or_right : (a b : Bool) → b ≡ true → (a || b) ≡ true
or_right true b e = refl
or_right false b e = e

alike : (a b : Bool) → (a ≡ true → b ≡ true) → (b ≡ true → a ≡ true) → a ≡ b
alike true b f g = sym (f refl)
alike false true f g = g refl
alike false false f g = refl

pub member_from_occurs : (r : Reference) (rs : List Reference) → occurs same_reference r rs ≡ true → Memᴰ r rs
member_from_occurs r [] e = absurd (false≢true e)
member_from_occurs r (s ∷ ss) e = go (member_from_occurs r ss) (or_from (same_reference r s) (occurs same_reference r ss) e)
  where
    go : (occurs same_reference r ss ≡ true → Memᴰ r ss) → (same_reference r s ≡ true) ⊎ (occurs same_reference r ss ≡ true) → Memᴰ r (s ∷ ss)
    go later (inl here) = Memᴰ.head (same-is r s here)
    go later (inr there) = Memᴰ.tail (later there)

pub occurs_from_member : (r : Reference) (rs : List Reference) → Memᴰ r rs → occurs same_reference r rs ≡ true
occurs_from_member r [] m = elim m [ ]
occurs_from_member r (s ∷ ss) m = go (occurs_from_member r ss) (Memᴰ.cases_cons m)
  where
    go : (Memᴰ r ss → occurs same_reference r ss ≡ true) → (r ≡ s) ⊎ Memᴰ r ss → (same_reference r s || occurs same_reference r ss) ≡ true
    go later (inl e) = or_left (same_reference r s) (occurs same_reference r ss) (ap (λ x. same_reference r x) (sym e) ∙ same_itself r)
    go later (inr there) = or_right (same_reference r s) (occurs same_reference r ss) (later there)

pub lists_references : (us : List Use) → Lists us (references us)
unfolding references
lists_references us =
    let rs = map reference_of us in
    record {
      ascends = ascends-sorted rs;
      within = λ r m. member_from_occurs r rs (sym (occurs-sorted r rs) ∙ occurs_from_member r (sorted rs) m);
      all = λ r m. member_from_occurs r (sorted rs) (occurs-sorted r rs ∙ occurs_from_member r rs m);
    }

pub lists_only : (us : List Use) (rs : List Reference) → Lists us rs → rs ≡ references us
lists_only us rs h =
    let k = lists_references us in
    one_list rs (references us) h.ascends k.ascends
    (λ q. alike (occurs same_reference q rs) (occurs same_reference q (references us))
    (λ e. occurs_from_member q (references us) (k.all q (h.within q (member_from_occurs q rs e))))
    (λ e. occurs_from_member q rs (h.all q (k.within q (member_from_occurs q (references us) e)))))
