-- A model of a fit size is judged by what it is read as.
use Rattle.std.proofs.Common.{◌≡◌, ℕ, ◌≤◌, Bool, false, cond, eqb, ltb, List, length, ap, ◌∙◌}
use Rattle.std.proofs.lemmas.Bool.{ne_eqb, le-ltb}
use Rattle.model.specs.Read.{model}
use Rattle.model.specs.Verdict.{refused, judged_out, longest_allowed, verdict}

pub within_size : (bs : List ℕ) → (length bs ≡ 0 → ⊥) → length bs ≤ longest_allowed → verdict bs ≡ judged_out (model bs)
within_size bs z l =
    let x : eqb (length bs) 0 ≡ false = ne_eqb (length bs) 0 z in
    let y : ltb longest_allowed (length bs) ≡ false = le-ltb longest_allowed (length bs) l in
    ap (λ (t : Bool). cond t (refused 1 0) (cond (ltb longest_allowed (length bs)) (refused 1 0) (judged_out (model bs)))) x ∙ ap (λ (t : Bool). cond t (refused 1 0) (judged_out (model bs))) y
