-- Bytes that have grown by the next name, and the next name by itself.
use Rattle.std.proofs.Common.{◌≡◌, ℕ, ◌+◌, ◌^◌, ◌<◌, true, false, List, [], ◌++◌, take, Some, None, decimal, Option, sym, refl, ap, ◌∙◌, append_assoc, arith}
use Rattle.std.proofs.lemmas.List.{append-nil}
use Rattle.naming.specs.Next.{front, number, next_name, Appended}
use Rattle.naming.proofs.Nexts.{next-none, next-some}

appended_none : (o : Option (List ℕ)) (before : List ℕ) → o ≡ None → Appended o false before before
appended_none None before e = (refl, sym (append-nil before))
appended_none (Some w) before e = let z : ◌≡◌ {A = ℕ} 0 1 = cc in absurd (omega arith)

appended_some : (o : Option (List ℕ)) (w before after : List ℕ) → o ≡ Some w → after ≡ before ++ w → Appended o true before after
appended_some None w before after e is = let z : ◌≡◌ {A = ℕ} 0 1 = cc in absurd (omega arith)
appended_some (Some v) w before after e is = let s : w ≡ v = cc in (refl, is ∙ ap (λ x. before ++ x) s)

pub puts_none : (name before : List ℕ) (last : ℕ) → last ≡ number name → (last + 1 < 2 ^ 64 → ⊥) → Appended (next_name name) false before before
puts_none name before last is full = appended_none (next_name name) before (sym (next-none name (λ l. full (omega arith))))

pub puts_next : (name before middle after : List ℕ) (at last next : ℕ) → at ≡ front name → last ≡ number name → last + 1 < 2 ^ 64 → next ≡ last + 1 →
    middle ≡ before ++ take at name → after ≡ middle ++ decimal next → Appended (next_name name) true before after
puts_next name before middle after at last next f n room one m a =
    appended_some (next_name name) (take at name ++ decimal next) before after (sym (next-some name (take at name ++ decimal next) at next f (omega arith) (omega arith) refl))
    (a ∙ (ap (λ x. x ++ decimal next) m ∙ append_assoc before (take at name) (decimal next)))
