-- What a set of the code's keys holds, by the keys' texts and never by where those lie.
use Rattle.std.specs.Prelude.{◌≡◌, ℕ, Bool, List}
use Rattle.std.specs.declared.cmp.Ordering.{Ordering}
use Rattle.std.specs.Borrow.{Bor}
use Rattle.std.specs.BTreeSet.{BTreeSet}
use Rattle.std.specs.Ordering.{nat_cmp, then_cmp, on}
use Rattle.std.specs.Cmp.{IsTotalOrder, nat_cmp_total, on_total, then_total}
use Rattle.std.specs.Cmp.Lexicographic.{slice_cmp, lists_total}
use Rattle.std.specs.BTreeSet.{IsOrdered, contains}
use Rattle.model.specs.Limits.{occurs, same_text_of}
use Rattle.model.specs.declared.uses.Reference.{Reference as ReferenceOf}

-- the set holds a key where these values, compared by e, have what f reads off the key
pub record Keeps {K B : Type 0} {R : K → K → Ordering} (o : IsTotalOrder R) (f : K → B) (e : B → B → Bool) (bs : List B) (s : BTreeSet K) : Type 0 where
  pub lawful : IsOrdered R s
  pub holds : (q : K) → contains R s q ≡ occurs e (f q) bs

-- the order of texts: by their bytes
abbrev pub text_cmp : Bor (List ℕ) → Bor (List ℕ) → Ordering
text_cmp x y = slice_cmp nat_cmp x.now y.now

abbrev pub by_bytes : IsTotalOrder text_cmp
by_bytes = on_total (λ (x : Bor (List ℕ)). x.now) (lists_total nat_cmp_total)

-- the set holds the names
abbrev pub Names : List (List ℕ) → BTreeSet (Bor (List ℕ)) → Type 0
Names ns s = Keeps by_bytes (λ x. x.now) same_text_of ns s

-- the order of references as the code derives it: by the module, then by the attribute
abbrev pub reference_cmp : ReferenceOf → ReferenceOf → Ordering
reference_cmp = then_cmp (on (λ (r : ReferenceOf). r.from) text_cmp) (on (λ (r : ReferenceOf). r.name) text_cmp)

abbrev pub by_texts : IsTotalOrder reference_cmp
by_texts = then_total (on_total (λ (r : ReferenceOf). r.from) by_bytes) (on_total (λ (r : ReferenceOf). r.name) by_bytes)
