-- What the indexes tell of the bindings.
use Rattle.std.proofs.Common.{◌≡◌, ℕ, zero, suc, ◌+◌, ◌-◌, ◌^◌, ◌<◌, ◌≤◌, Bool, true, false, cond, not, ◌||◌, eqb, List, length, is_some, Some, None, vec_items, Option, Vec, sym, refl, ap, ◌∙◌, subst, add-one, arith, Bor}
use Rattle.std.specs.declared.alloc.Global.{Global}
use Rattle.std.specs.Option.{option_map}
use Rattle.std.specs.BTreeSet as bag
use Rattle.std.specs.Cmp.Lexicographic.{slice_cmp}
use Rattle.std.specs.Ordering.{nat_cmp}
use Rattle.std.proofs.lemmas.Bool.{eqb-true, eqb-false}
use Rattle.model.specs.Tree.{Text}
use Rattle.naming.specs.Next.{next_name, following, proposal}
use Rattle.references.specs.Kept.{text_cmp}
use Rattle.binding.specs.declared.binder.Binder.{Binder}
use Rattle.binding.specs.Binding.{Binding, find, chosen}
use Rattle.binding.specs.Sound.{bindings_in, Bounded, Reached, Comes, Indexed, free_from}

-- a vector with these bytes, wherever it would lie
pub spelled : Vec ℕ Global → (bs : List ℕ) → length bs < 2 ^ 63 → Vec ℕ Global
spelled v bs l = record { ptr = v.ptr; len = length bs; cap = length bs; alloc = v.alloc; items = bs; ok = (refl, omega arith); small = l }

pub spelled-bytes : (v : Vec ℕ Global) (bs : List ℕ) (l : length bs < 2 ^ 63) → vec_items (spelled v bs l) ≡ bs
unfolding spelled
spelled-bytes v bs l = refl

-- the two sets tell together whether a name is bound, in whatever order they are asked
pub bound_either : (s : Binder) (q : Bor (List ℕ)) → Indexed s → length q.now < 2 ^ 63 → (bag.contains text_cmp s.names q || bag.contains_by (λ k. slice_cmp nat_cmp q.now (vec_items k)) s.aliases) ≡ is_some (find (bindings_in s) q.now)
bound_either s q x l =
    let e = spelled-bytes s.pool q.now l in
    ap (λ bs. bag.contains text_cmp s.names q || bag.contains_by (λ k. slice_cmp nat_cmp bs (vec_items k)) s.aliases) (sym e) ∙ x.taken q (spelled s.pool q.now l) e

-- ---- the search for a free name

module _ (b : List Binding) where
  -- a turn of the loop, by the name that it comes to
  no_next : (n i : ℕ) (o all : Option Text) → i < n → o ≡ None → free_from (n - i) b o ≡ all → None ≡ all
  no_next n i o all l e inv = go (n - i) (omega arith) inv
    where
      go : (m : ℕ) → 0 < m → free_from m b o ≡ all → None ≡ all
      go zero z h = absurd (omega arith)
      go (suc m) z h = ap (λ y. chosen y (λ w. not (is_some (find b w))) (free_from m b (following y))) (sym e) ∙ h

  next-free : (n i : ℕ) (o : Option Text) (w : Text) (all : Option Text) → i < n → o ≡ Some w → false ≡ is_some (find b w)
      → free_from (n - i) b o ≡ all → Some w ≡ all
  next-free n i o w all l e f inv = go (n - i) (omega arith) inv
    where
      go : (m : ℕ) → 0 < m → free_from m b o ≡ all → Some w ≡ all
      go zero z h = absurd (omega arith)
      go (suc m) z h =
          ap (λ c. cond (not c) (Some w) (free_from m b (next_name w))) f
          ∙ ap (λ y. chosen y (λ w. not (is_some (find b w))) (free_from m b (following y))) (sym e) ∙ h

  next-bound : (n i : ℕ) (o : Option Text) (w : Text) (all : Option Text) → i < n → o ≡ Some w → true ≡ is_some (find b w)
      → free_from (n - i) b o ≡ all → free_from (n - (i + 1)) b (next_name w) ≡ all
  next-bound n i o w all l e f inv = go (n - i) (n - (i + 1)) (omega arith) inv
    where
      go : (m k : ℕ) → m ≡ suc k → free_from m b o ≡ all → free_from k b (next_name w) ≡ all
      go zero k z h = absurd (omega arith)
      go (suc m) k z h =
          let same : m ≡ k = omega arith in
          ap (λ j. free_from j b (next_name w)) (sym same)
          ∙ ap (λ c. cond (not c) (Some w) (free_from m b (next_name w))) f
          ∙ ap (λ y. chosen y (λ w. not (is_some (find b w))) (free_from m b (following y))) (sym e) ∙ h

  none_left : (n i : ℕ) (o all : Option Text) → n ≤ i → free_from (n - i) b o ≡ all → None ≡ all
  none_left n i o all l inv = let z : n - i ≡ 0 = omega arith in ap (λ k. free_from k b o) (sym z) ∙ inv

-- what the code holds of a next name
pub next-of : (n m : Text) (o r : Option (Vec ℕ Global)) → n ≡ m → option_map (λ v. vec_items v) o ≡ next_name n → o ≡ r → next_name m ≡ option_map (λ v. vec_items v) r
next-of n m o r e p is = ap next_name (sym e) ∙ sym p ∙ ap (option_map (λ v. vec_items v)) is

-- ---- the loop, by the number of the proposal that it has come to

pub record Seeks (b : List Binding) (root : Text) (count n : ℕ) (name : Text) : Type 0 where
  pub reached : Reached b root name n
  pub rest : free_from (count - n) b (next_name name) ≡ free_from count b (next_name root)

one_past : (c m k : ℕ) → c - m ≡ suc k → c - suc m ≡ k
one_past c m k e = omega arith

-- the proposals that are known to be bound are passed over
skipped : (b : List Binding) (root : Text) (c m : ℕ) (w : Text) → proposal root m ≡ Some w → ((i : ℕ) → i ≤ m → Bounded b (proposal root i)) → free_from (c - m) b (next_name w) ≡ free_from c b (next_name root)
skipped b root c zero w is upto =
    let e : root ≡ w = cc in
    let z : c - 0 ≡ c = omega arith in
    ap (λ k. free_from k b (next_name w)) z ∙ ap (λ x. free_from c b (next_name x)) (sym e)
skipped b root c (suc m) w is upto = go (proposal root m) refl (upto m (omega arith)) is (λ v e. skipped b root c m v e (λ i l. upto i (omega arith)))
  where
    here : is_some (find b w) ≡ true
    here = subst (Bounded b) is (upto (suc m) (omega arith))

    turn : (k : ℕ) → c - m ≡ k → free_from (c - suc m) b (next_name w) ≡ free_from k b (Some w)
    turn zero e = let z : c - suc m ≡ 0 = omega arith in ap (λ j. free_from j b (next_name w)) z
    turn (suc k) e = ap (λ j. free_from j b (next_name w)) (one_past c m k e) ∙ ap (λ x. cond (not x) (Some w) (free_from k b (next_name w))) (sym here)

    go : (o : Option Text) → proposal root m ≡ o → Bounded b o → following o ≡ Some w → ((v : Text) → proposal root m ≡ Some v → free_from (c - m) b (next_name v) ≡ free_from c b (next_name root))
        → free_from (c - suc m) b (next_name w) ≡ free_from c b (next_name root)
    go None at h next more = absurd h
    go (Some v) at h next more = turn (c - m) refl ∙ ap (free_from (c - m) b) (sym next) ∙ more v at

module _ (b : List Binding) (root : Text) (count : ℕ) where
  pub seeks_start : (m : ℕ) (w : Text) → Reached b root w m → Seeks b root count m w
  seeks_start m w r = record { reached = r; rest = skipped b root count m w r.is r.upto }

  module _ (n : ℕ) (name : Text) (s : Seeks b root count n name) where
    pub seeks_end : count ≤ n → free_from count b (next_name root) ≡ None
    seeks_end l = sym (none_left b count n (next_name name) (free_from count b (next_name root)) l s.rest)

    pub seeks_none : n < count → next_name name ≡ None → free_from count b (next_name root) ≡ None
    seeks_none l e = sym (no_next b count n (next_name name) (free_from count b (next_name root)) l e s.rest)

    module _ (w : Text) (l : n < count) (p : next_name name ≡ Some w) where
      next-is : proposal root (n + 1) ≡ Some w
      next-is = ap (proposal root) (add-one n) ∙ ap following s.reached.is ∙ p

      pub seeks_free : false ≡ is_some (find b w) → (free_from count b (next_name root) ≡ Some w) × Comes b root w (n + 1)
      seeks_free f = (
        sym (next-free b count n (next_name name) w (free_from count b (next_name root)) l p f s.rest),
        record { is = next-is; below = λ i h. s.reached.upto i (omega arith) },
      )

      pub seeks_bound : true ≡ is_some (find b w) → Seeks b root count (n + 1) w
      seeks_bound f = record {
        reached = record { is = next-is; upto = upto };
        rest = next-bound b count n (next_name name) w (free_from count b (next_name root)) l p f s.rest;
      }
        where
          upto : (i : ℕ) → i ≤ n + 1 → Bounded b (proposal root i)
          upto i h = go (eqb i (n + 1)) refl
            where
              go : (c : Bool) → eqb i (n + 1) ≡ c → Bounded b (proposal root i)
              go true e = subst (λ j. Bounded b (proposal root j)) (sym (eqb-true i (n + 1) e)) (subst (Bounded b) (sym next-is) (sym f))
              go false e = let d = eqb-false i (n + 1) e in s.reached.upto i (omega arith)

-- the root itself, which is bound
pub reached-root : (b : List Binding) (root : Text) → is_some (find b root) ≡ true → Reached b root root 0
reached-root b root h = record { is = refl; upto = λ i l. at i l }
  where
    at : (i : ℕ) → i ≤ 0 → Bounded b (proposal root i)
    at zero l = h
    at (suc i) l = absurd (omega arith)
