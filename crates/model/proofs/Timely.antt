-- The whole model: what stands before a fault can be continued; where the bytes ran out, it may be all but the last of them.
use Rattle.std.proofs.Common.{◌≡◌, ℕ, ◌+◌, ◌-◌, List, ◌++◌, length, take, ap, ◌∙◌, subst, inl, inr, ⊎_elim, arith, length-append}
use Rattle.std.proofs.lemmas.List.{take_at}
use Rattle.model.specs.Encode.{encode}
use Rattle.model.specs.Laws.{Continuable, FaultsInTime}
use Rattle.model.proofs.Continued.{Any, Good, Cut}
use Rattle.model.proofs.Formats.{versioned_good}

front : (bs : List ℕ) (p q : ℕ) (c : Cut encode Any (length bs) bs p) → q ≡ length bs - length c.rest → Continuable (take q bs)
front bs p q c e =
    let l : length bs ≡ length c.pre + length c.rest = ap length c.split ∙ length-append c.pre c.rest in
    let t : take q bs ≡ c.pre = ap (take q) c.split ∙ take_at c.pre c.rest q (omega arith) in
    (c.value, (c.more, ap (λ x. x ++ c.more) t ∙ c.is))

pub faults_in_time_lem : FaultsInTime
faults_in_time_lem bs b p e =
    let c : Cut encode Any (length bs) bs p = subst (Good encode Any (length bs) bs) e (versioned_good (length bs) bs b) in
    ⊎_elim
    (λ h. (omega arith, inl (front bs p p c h)))
    (λ h. (omega arith, inr (h.0, front bs p (p - 1) c (omega arith))))
    c.near
