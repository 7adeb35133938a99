-- What so many calls lead to, and how the reader goes on by them.
use Rattle.std.proofs.Common.{◌≡◌, ℕ, zero, suc, ◌+◌, ◌-◌, ◌<◌, List, Ok, Err, IsErr, IsErrAnd, Result, refl, sym, ap, ◌∙◌, inl, inr, arith, MutBor}
use Rattle.std.proofs.lemmas.Bool.{false≢true}
use Rattle.std.proofs.lemmas.Result.{err_from_is_err_and}
use Rattle.std.specs.Fn.{Shared}
use Rattle.model.specs.Repeats.{Calls, Repeats}
use Rattle.model.specs.declared.reader.Reader.{Reader}
use Rattle.model.specs.declared.fault.Layout.{Layout}
use Rattle.model.specs.declared.findings.Findings.{Findings}
use Rattle.model.specs.Read.{Out, bind}
use Rattle.model.specs.Audit.{laps}
use Rattle.model.specs.Steps.{Goes, CallsGo}
use Rattle.model.proofs.Going.{goes_by}

pub called : {F S R : Type 0} (g : Shared F (MutBor S × Unit {0}) (R × (MutBor S × Unit {0}))) (f : F) (x y : MutBor S) (r : R) → g.post f (x, tt) (r, (y, tt)) → Calls g f x.now r y.now
called g f x y r h = record { shown = x; shows = refl; left = y; met = h; leaves = refl }

pub repeats_more : {S E : Type 0} (call : S → Result (Unit {0}) E → S → Type 0) (n i : ℕ) (s m t : S) (r : Result (Unit {0}) E) → i < n → call s (Ok tt) m → Repeats call (n - (i + 1)) m r t → Repeats call (n - i) s r t
repeats_more call n i s m t r h one more = let e : n - i ≡ suc (n - (i + 1)) = omega arith in rw e (inr (m, one, more))

pub repeats_fails : {S E : Type 0} (call : S → Result (Unit {0}) E → S → Type 0) (n i : ℕ) (s t : S) (r : Result (Unit {0}) E) (x : E) → i < n → IsErrAnd r (λ y. y ≡ x) → call s (Err x) t → Repeats call (n - i) s r t
repeats_fails call n i s t r x h b one =
    let e : n - i ≡ suc (n - (i + 1)) = omega arith in
    let p = err_from_is_err_and r b in
    rw (e, p.1, p.2) (inl (one, refl))

module _ {F : Type 0} (g : Shared F (MutBor Reader × Unit {0}) (Result (Unit {0}) Layout × (MutBor Reader × Unit {0}))) (f : F) (one : ℕ → List ℕ → Findings → Out Findings) (calls : CallsGo (λ x r y. g.post f (x, tt) (r, (y, tt))) one) where
  goes_call : (s t : Reader) (r : Result (Unit {0}) Layout) → Calls g f s r t → Goes s t r (one s.at.end)
  goes_call s t r c = rw (sym c.shows, sym c.leaves) (calls c.shown c.left r c.met)

  goes_fails : (n : ℕ) (s t : Reader) (r : Result (Unit {0}) Layout) → IsErr r → Goes s t r (one s.at.end) → Goes s t r (laps (one s.at.end) (suc n))
  goes_fails n s t (Ok v) e h = absurd (false≢true e)
  goes_fails n s t (Err x) e h = ap (λ (o : Out Findings). bind o (λ g r. laps (one s.at.end) n r g)) h

  pub goes_laps : (n : ℕ) (s t : Reader) (r : Result (Unit {0}) Layout) → Repeats (Calls g f) n s r t → Goes s t r (laps (one s.at.end) n)
  goes_laps zero s t r p = rw (p.0, p.1) record { is = refl; end = refl }
  goes_laps (suc n) s t r (inl p) = goes_fails n s t r p.1 (goes_call s t r p.0)
  goes_laps (suc n) s t r (inr p) =
      let w = goes_call s p.0 (Ok tt) p.1 in
      goes_by s p.0 t r _ _ (ap (λ (o : Out Findings). bind o (λ g r. laps (one s.at.end) n r g)) w.is ∙ ap (λ (k : ℕ). laps (one k) n p.0.at.rest.now p.0.found) (sym w.end)) w.end (goes_laps n p.0 t r p.2)
