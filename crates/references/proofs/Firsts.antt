-- The least place among the uses that a test takes.
use Rattle.std.proofs.Common.{◌≡◌, ℕ, min, Bool, true, false, cond, List, [], ◌∷◌, map, Option, sym, refl, ap, ◌∙◌}
use Rattle.std.specs.Option.{option_map}
use Rattle.std.specs.List.{filter, reduce}
use Rattle.std.proofs.lemmas.Iterator.Adapters.{option_map_id}
use Rattle.model.specs.Rules.{least}
use Rattle.model.specs.Uses.{Use}
use Rattle.model.specs.Steps.{use_of}
use Rattle.model.specs.declared.uses.Use.{Use as UseOf}
use Rattle.model.proofs.Leasts.{reduce_min}
use Rattle.references.specs.References.{places_by}

module _ (test : Use → Bool) where
  place_kept : (b : Bool) (p : ℕ) (u : UseOf) (us : List UseOf) (ps : List ℕ) → u.place ≡ p → map (λ (v : UseOf). v.place) us ≡ ps → map (λ (v : UseOf). v.place) (cond b (u ∷ us) us) ≡ cond b (p ∷ ps) ps
  place_kept true p u us ps e h = λ i. e i ∷ h i
  place_kept false p u us ps e h = h

  places_kept : (us : List UseOf) → map (λ (u : UseOf). u.place) (filter (λ u. test (use_of u)) us) ≡ places_by test (map use_of us)
  places_kept [] = refl
  places_kept (u ∷ us) = place_kept (test (use_of u)) u.place u (filter (λ v. test (use_of v)) us) (places_by test (map use_of us)) refl (places_kept us)

  pub least_kept : (us : List UseOf) (r : Option ℕ) → option_map (λ p. p) r ≡ reduce min (map (λ (u : UseOf). u.place) (filter (λ u. test (use_of u)) us)) → r ≡ least (places_by test (map use_of us))
  least_kept us r e = sym (option_map_id r) ∙ e ∙ reduce_min _ ∙ ap least (places_kept us)
