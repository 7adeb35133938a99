-- How the code comes to the names of a file.
use Rattle.std.proofs.Common.{◌≡◌, ℕ, List, map, Some, None, Option, unwrap_or, sym, ap, ◌∙◌}
use Rattle.model.specs.Tree.{Text}
use Rattle.model.specs.Uses.{Use, Declared}
use Rattle.model.specs.Rules.{least}
use Rattle.references.specs.References.{Reference, pair_of, references, use_places, undeclared, name_of}
use Rattle.binding.specs.declared.names.Names.{Names}
use Rattle.binding.specs.Binding.{by_number, exhausted, take_all_of, declared_by}
use Rattle.binding.specs.Named.{Holds, name_among, bindings_held}
use Rattle.resolver.specs.Resolved.{refused, names_from, unless, resolution}
use Rattle.resolver.specs.Resolves.{Named}

module _ (own : Text) (ds es : List Declared) (us vs : List Use) (de : es ≡ ds) (ue : vs ≡ us) (p : Option ℕ) (found : p ≡ least (undeclared own es vs)) where
  first : least (undeclared own ds us) ≡ p
  first = (λ i. least (undeclared own (sym de i) (sym ue i))) ∙ sym found

  pub refused-undeclared : (place : ℕ) → p ≡ Some place → resolution own ds us ≡ refused 10 place
  unfolding resolution
  refused-undeclared place is = ap (λ o. unless o (names_from (take_all_of by_number (declared_by own (map name_of ds)) (references us)) us)) (first ∙ is)

  onward : p ≡ None → resolution own ds us ≡ names_from (take_all_of by_number (declared_by own (map name_of ds)) (references us)) us
  unfolding resolution
  onward none = ap (λ o. unless o (names_from (take_all_of by_number (declared_by own (map name_of ds)) (references us)) us)) (first ∙ none)

  same_taken : (rs : List Reference) → rs ≡ references vs → take_all_of by_number (declared_by own (map name_of es)) rs ≡ take_all_of by_number (declared_by own (map name_of ds)) (references us)
  same_taken rs re = λ i. take_all_of by_number (declared_by own (map name_of (de i))) ((re ∙ ap references ue) i)

  pub resolved-names : p ≡ None → (rs : List Reference) → rs ≡ references vs → (n : Names) → Holds own (map name_of es) rs n → Named (resolution own ds us) us n
  resolved-names none rs re n h = record {
    bindings = onward none ∙ ap (λ t. names_from t us) (sym (same_taken rs re) ∙ h.bindings);
    renames = λ q. h.renames q ∙ ap (λ l. name_among l (bindings_held n) (pair_of q)) (re ∙ ap references ue);
  }

  pub refused-exhausted : p ≡ None → (rs : List Reference) → rs ≡ references vs → (r : Reference) → take_all_of by_number (declared_by own (map name_of es)) rs ≡ exhausted r
      → (o : Option ℕ) (place : ℕ) → o ≡ least (use_places r vs) → place ≡ unwrap_or o 0 → resolution own ds us ≡ refused 11 place
  refused-exhausted none rs re r e o place at is =
      onward none ∙ ap (λ t. names_from t us) (sym (same_taken rs re) ∙ e)
      ∙ ap (refused 11) (sym (is ∙ ap (λ x. unwrap_or x 0) at ∙ ap (λ l. unwrap_or (least (use_places r l)) 0) ue))
