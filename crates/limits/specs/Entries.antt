-- Entries, each with a place and a key, and the orders of the keys.
use Rattle.std.specs.Prelude.{ℕ, List, Option}
use Rattle.std.specs.declared.cmp.Ordering.{Ordering}
use Rattle.std.specs.Borrow.{Bor}
use Rattle.std.specs.Ordering.{ordering_then, nat_cmp}
use Rattle.std.specs.Option.{option_cmp}
use Rattle.std.specs.Cmp.{IsTotalOrder, nat_cmp_total, on_total, then_total}
use Rattle.std.specs.Cmp.Lexicographic.{slice_cmp, options_total, on_texts}
use Rattle.model.specs.declared.uses.Reference.{Reference}
use Rattle.model.specs.Limits.{Keyed}

abbrev pub keyed : {E K : Type 0} → (E → ℕ) → (E → K) → E → Keyed K
keyed place key e = record { place = place e; key = key e }

-- names: by their bytes
abbrev pub text_cmp : Bor (List ℕ) → Bor (List ℕ) → Ordering
text_cmp x y = slice_cmp nat_cmp x.now y.now

-- references: by the module, then by the attribute
abbrev pub reference_cmp : Reference → Reference → Ordering
reference_cmp x y = ordering_then (text_cmp x.from y.from) (text_cmp x.name y.name)

-- siblings: by the holder, then by the name
abbrev pub sibling_cmp : Option ℕ × Bor (List ℕ) → Option ℕ × Bor (List ℕ) → Ordering
sibling_cmp x y = ordering_then (option_cmp nat_cmp x.0 y.0) (text_cmp x.1 y.1)

-- the orders of all keys are total
pub texts_total : IsTotalOrder text_cmp
texts_total = on_texts (λ (x : Bor (List ℕ)). x.now)

pub references_total : IsTotalOrder reference_cmp
references_total = then_total (on_texts (λ (x : Reference). x.from.now)) (on_texts (λ (x : Reference). x.name.now))

pub siblings_total : IsTotalOrder sibling_cmp
siblings_total =
    then_total (on_total (λ (x : Option ℕ × Bor (List ℕ)). x.0) (options_total nat_cmp_total)) (on_texts (λ (x : Option ℕ × Bor (List ℕ)). x.1.now))
