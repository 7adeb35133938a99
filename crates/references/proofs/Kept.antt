-- A set that holds the keys that a loop has put into it.
use Rattle.std.proofs.Common.{◌≡◌, ℕ, Bool, ◌||◌, List, [], ◌∷◌, map, Ordering, Less, sym, refl, ap, ◌∙◌, subst, Bor}
use Rattle.std.specs.BTreeSet.{BTreeSet}
use Rattle.std.specs.Cmp.{IsTotalOrder}
use Rattle.std.specs.Ordering.{eq_by_cmp, is_eq}
use Rattle.std.specs.List.{AllByRecursion, list_any}
use Rattle.std.specs.List.Sorted.{IsStrictlySortedBy}
use Rattle.std.specs.BTreeSet.{InsertsAll, IsEmpty, IsFromIterResult, keys}
use Rattle.model.specs.Limits.{occurs, same_reference, same_text_of}
use Rattle.model.specs.Steps.{use_of, declared_of}
use Rattle.model.specs.declared.uses.Use.{Use as UseOf}
use Rattle.model.specs.declared.uses.Declared.{Declared as DeclaredOf}
use Rattle.model.specs.declared.uses.Reference.{Reference as ReferenceOf}
use Rattle.references.specs.References.{Reference, order, pair_of, reference_of, references, sorted, name_of}
use Rattle.references.specs.Kept.{Keeps, Names, text_cmp, by_bytes, reference_cmp, by_texts}
use Rattle.references.proofs.Ties.{order_ties, text_ties}
use Rattle.references.proofs.Listed.{ascends-sorted, occurs-sorted, one_list}

module _ {K : Type 0} (R : K → K → Ordering) where
  -- a set that was empty, and got these
  pub from_empty : (ks : List K) (none s : BTreeSet K) → IsEmpty none → InsertsAll R none ks s → IsFromIterResult R ks s
  from_empty ks none s empty h = (λ q. h.0 q ∙ ap (λ xs. list_any (λ k. is_eq (R q k)) xs || list_any (λ k. is_eq (R q k)) ks) empty, h.1)

module _ {K B : Type 0} {R : K → K → Ordering} (o : IsTotalOrder R) (f : K → B) (e : B → B → Bool) (agree : (x y : K) → eq_by_cmp R x y ≡ e (f x) (f y)) where
  found : (ks : List K) (q : K) → list_any (λ k. is_eq (R q k)) ks ≡ occurs e (f q) (map f ks)
  found [] q = refl
  found (k ∷ ks) q = λ i. agree q k i || found ks q i

  -- a set that is collected
  pub keeps_collected : (ks : List K) (s : BTreeSet K) → IsFromIterResult R ks s → Keeps o f e (map f ks) s
  keeps_collected ks s h = record { lawful = h.1; holds = λ q. h.0 q ∙ found ks q }

  -- the keys themselves
  pub kept_occur : (bs : List B) (s : BTreeSet K) (q : K) → Keeps o f e bs s → occurs e (f q) (map f (keys s)) ≡ occurs e (f q) bs
  kept_occur bs s q h = sym (found (keys s) q) ∙ h.holds q

-- ---- references as keys

pub key_ties : (x y : ReferenceOf) → eq_by_cmp reference_cmp x y ≡ same_reference (pair_of x) (pair_of y)
key_ties x y = order_ties (pair_of x) (pair_of y)

all_map : (r : ReferenceOf) (ks : List ReferenceOf) → AllByRecursion (λ y. reference_cmp r y ≡ Less) ks → AllByRecursion (λ y. order (pair_of r) y ≡ Less) (map pair_of ks)
all_map r [] h = tt
all_map r (k ∷ ks) h = (h.0, all_map r ks h.1)

ascends-map : (ks : List ReferenceOf) → IsStrictlySortedBy (λ x y. reference_cmp x y) ks → IsStrictlySortedBy order (map pair_of ks)
unfolding IsStrictlySortedBy
ascends-map [] h = tt
ascends-map (k ∷ ks) h = (all_map k ks h.0, ascends-map ks h.1)

pub use_pairs : (us : List UseOf) → map pair_of (map (λ (u : UseOf). u.reference) us) ≡ map reference_of (map use_of us)
use_pairs [] = refl
use_pairs (u ∷ us) = ap (λ t. pair_of u.reference ∷ t) (use_pairs us)

-- a reference of the code that stands for this one
abbrev spelling : Reference → ReferenceOf
spelling r = record { from = record { ref_ptr = (0, 0); now = r.0 }; name = record { ref_ptr = (0, 0); now = r.1 } }

pub kept_references : (us : List UseOf) (s : BTreeSet ReferenceOf) → IsFromIterResult reference_cmp (map (λ (u : UseOf). u.reference) us) s → map pair_of (keys s) ≡ references (map use_of us)
unfolding references
kept_references us s made =
    let rs = map reference_of (map use_of us) in
    let h = keeps_collected by_texts pair_of same_reference key_ties (map (λ (u : UseOf). u.reference) us) s made in
    one_list (map pair_of (keys s)) (sorted rs) (ascends-map (keys s) h.lawful) (ascends-sorted rs)
    (λ q. kept_occur by_texts pair_of same_reference key_ties _ s (spelling q) h ∙ ap (occurs same_reference q) (use_pairs us) ∙ sym (occurs-sorted q rs))

-- ---- names as keys

declared_names : (ds : List DeclaredOf) → map (λ (x : Bor (List ℕ)). x.now) (map (λ (d : DeclaredOf). d.name) ds) ≡ map name_of (map declared_of ds)
declared_names [] = refl
declared_names (d ∷ ds) = ap (λ t. d.name.now ∷ t) (declared_names ds)

pub kept_names : (ds : List DeclaredOf) (s : BTreeSet (Bor (List ℕ))) → IsFromIterResult text_cmp (map (λ (d : DeclaredOf). d.name) ds) s → Names (map name_of (map declared_of ds)) s
kept_names ds s made =
    subst (λ ns. Names ns s) (declared_names ds) (keeps_collected by_bytes (λ x. x.now) same_text_of (λ x y. text_ties x.now y.now) (map (λ (d : DeclaredOf). d.name) ds) s made)
