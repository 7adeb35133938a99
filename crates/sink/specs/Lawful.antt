-- Runs that fit, and runs that match, are as the laws of sinks want them.
use Rattle.std.specs.Prelude.{◌≡◌, ℕ, ◌≤◌, List, [], ◌∷◌, ◌++◌, length, take, refl}
use Rattle.std.specs.List.{AllByRecursion}
use Rattle.std.proofs.Common.{arith, sym, ap, ◌∙◌, append_assoc, length-append, take-take, take_at}
use Rattle.sink.specs.Sinks.{Plain, SinkLaws}
use Rattle.sink.specs.Texts.{written, Fitting, Matching}

pub written_append : (rs more : List (List ℕ)) → written (rs ++ more) ≡ written rs ++ written more
written_append [] more = refl
written_append (l ∷ rs) more = ap (λ t. l ++ (10 ∷ t)) (written_append rs more) ∙ sym (append_assoc l (10 ∷ written rs) (written more))

pub written_longer : (rs more : List (List ℕ)) → length (written rs) ≤ length (written (rs ++ more))
written_longer rs more = omega (arith, ap length (written_append rs more), length-append (written rs) (written more))

all-front : (rs more : List (List ℕ)) → AllByRecursion Plain (rs ++ more) → AllByRecursion Plain rs
all-front [] more p = tt
all-front (l ∷ rs) more p = (p.0, all-front rs more p.1)

matches_front : (text : List ℕ) (rs more : List (List ℕ)) → take (length (written (rs ++ more))) text ≡ written (rs ++ more) → take (length (written rs)) text ≡ written rs
matches_front text rs more e =
    sym (take-take (length (written rs)) (length (written (rs ++ more))) text (written_longer rs more)) ∙ ap (take (length (written rs))) (e ∙ written_append rs more) ∙ take_at (written rs) (written more) (length (written rs)) refl

-- whatever room there is
pub fitting_laws : {S : Type 0} (room : S → ℕ) → SinkLaws (λ s. Fitting (room s))
fitting_laws room =
    record { none = λ s. (tt, omega arith); front = λ s rs more p. (all-front rs more p.0, omega (arith, p.1, written_longer rs more)); plain = λ s rs p. p.0 }

-- whatever text there is
pub matching_laws : {S : Type 0} (text : S → List ℕ) → SinkLaws (λ s. Matching (text s))
matching_laws text =
    record { none = λ s. (tt, refl); front = λ s rs more p. (all-front rs more p.0, matches_front (text s) rs more p.1); plain = λ s rs p. p.0 }
