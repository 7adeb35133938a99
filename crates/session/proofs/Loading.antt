-- A model that the verdict refuses is none that meets the rules.
use Rattle.std.proofs.Common.{◌≡◌, ℕ, List, IsErrAnd, Some, None, Option, Result, refl, arith}
use Rattle.std.proofs.lemmas.Result.{err_from_is_err_and}
use Rattle.model.specs.Laws.{Bytes}
use Rattle.model.specs.Verdict.{accepted, verdict}
use Rattle.verdict.specs.declared.refusal.Refusal.{Refusal}
use Rattle.verdict.specs.Answers.{Tells, Says}
use Rattle.rules.proofs.Loading.{loads_exactly_lem}
use Rattle.session.specs.declared.fault.Fault.{Fault}
use Rattle.session.specs.declared.fault.Fault.TheVariants.{Reader}
use Rattle.session.specs.Answers.{told}
use Rattle.session.specs.Calls.{Loaded, Refuted, LoadsWhatMeets}

refuted : (bs : List ℕ) → Bytes bs → (o : Option (ℕ × ℕ)) → Tells (verdict bs) o → Refuted o bs
refuted bs b None t = tt
refuted bs b (Some x) t = λ l. let e : verdict bs ≡ accepted = (loads_exactly_lem bs b).1 l in let z : ◌≡◌ {A = ℕ} 0 1 = cc in absurd (omega arith)

-- the exit of a `?` on a model that is refused; the session holds what it held
pub refused-load : (bs held : List ℕ) → Bytes bs → (r : Result (Unit {0}) Fault) (e : Refusal) → IsErrAnd r (λ y. y ≡ Reader e) → Says (verdict bs) e → Loaded bs held r held × LoadsWhatMeets bs r
refused-load bs held b r e d s =
    let p = err_from_is_err_and r d in
    rw (p.1, p.2) ((s, refl), refuted bs b (told (Reader e)) s)
