-- What a walk finds over each kind of entry is what the rules say of it.
use Rattle.std.proofs.Common.{◌≡◌, ℕ, ◌&&◌, List, map, IfOk, Option, Result, refl, ◌∙◌}
use Rattle.std.proofs.lemmas.Result.{IfOk-weaker}
use Rattle.std.specs.Ordering.{eq_by_cmp}
use Rattle.model.specs.Rules.{least}
use Rattle.model.specs.Limits.{repeats, over, same_text_of, same_held, same_reference, held_key, use_key, declared_key, distinct_allowed, repeated_siblings, surplus_uses, surplus_declared_of}
use Rattle.model.specs.Steps.{held_of, use_of, declared_of}
use Rattle.model.specs.declared.files.Listed.{Listed}
use Rattle.model.specs.declared.uses.Use.{Use}
use Rattle.model.specs.declared.uses.Declared.{Declared}
use Rattle.limits.specs.Entries.{keyed, text_cmp, reference_cmp, sibling_cmp}
use Rattle.limits.proofs.Same.{then_ties, text_ties, holder_ties, repeats_fit, over_fit}

pub declared_fits : {E : Type 0} (r : Result (Option ℕ) E) (ds : List Declared) → IfOk r (λ p. p ≡ least (over (eq_by_cmp text_cmp) distinct_allowed (map (keyed (λ (d : Declared). d.place) (λ (d : Declared). d.name)) ds)))
    → IfOk r (λ p. p ≡ least (surplus_declared_of (map declared_of ds)))
declared_fits r ds =
    IfOk-weaker r _ _ (λ p e. e ∙ over_fit (eq_by_cmp text_cmp) same_text_of (λ x. x.now) (λ x y. text_ties x.now y.now) _ _ declared_key declared_of (λ _. refl) distinct_allowed ds)

pub uses_fit : {E : Type 0} (r : Result (Option ℕ) E) (us : List Use) → IfOk r (λ p. p ≡ least (over (eq_by_cmp reference_cmp) distinct_allowed (map (keyed (λ (u : Use). u.place) (λ (u : Use). u.reference)) us)))
    → IfOk r (λ p. p ≡ least (surplus_uses (map use_of us)))
uses_fit r us =
    IfOk-weaker r _ _ (λ p e. e ∙ over_fit (eq_by_cmp reference_cmp) same_reference (λ x. (x.from.now, x.name.now)) (λ x y. then_ties _ _ ∙ (λ i. text_ties x.from.now y.from.now i && text_ties x.name.now y.name.now i)) _ _ use_key use_of (λ _. refl) distinct_allowed us)

pub siblings_fit : {E : Type 0} (r : Result (Option ℕ) E) (ms : List Listed) → IfOk r (λ p. p ≡ least (repeats (eq_by_cmp sibling_cmp) (map (keyed (λ (m : Listed). m.file.place) (λ (m : Listed). (m.file.holder, m.name))) ms)))
    → IfOk r (λ p. p ≡ least (repeated_siblings (map held_of ms)))
siblings_fit r ms =
    IfOk-weaker r _ _ (λ p e. e ∙ repeats_fit (eq_by_cmp sibling_cmp) same_held (λ x. (x.0, x.1.now)) (λ x y. then_ties _ _ ∙ (λ i. holder_ties x.0 y.0 i && text_ties x.1.now y.1.now i)) _ _ held_key held_of (λ _. refl) ms)
