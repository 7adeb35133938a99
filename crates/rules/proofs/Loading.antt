-- The verdict accepts exactly the models that load.
use Rattle.std.proofs.Common.{◌≡◌, ℕ, zero, suc, ◌≤◌, Bool, true, false, cond, eqb, ltb, ◌↔◌, List, [], map, length, refl, ap, ◌∙◌, subst, inl, inr, arith}
use Rattle.std.specs.List.{AllByRecursion}
use mathlib.Core.Logic.Iff
use lib.ListN.{length-map}
use Rattle.std.proofs.lemmas.Bool.{cases_Bool, both_ways, eqb-false, ltb-false, ne_eqb, le-ltb}
use Rattle.model.specs.Tree.{Module}
use Rattle.model.specs.Read.{Out, read, fault, model}
use Rattle.model.specs.Rules.{broken_name, places_of, module_items}
use Rattle.model.specs.Files.{files}
use Rattle.model.specs.Uses.{builtins}
use Rattle.model.specs.Limits.{same_text_of}
use Rattle.model.specs.Laws.{Bytes, Describes}
use Rattle.model.specs.Verdict.{Verdict, accepted, refused, module_name, module_place, root_name, broken_names, broken_values, repeated_modules, empty_attributes, surplus_modules, surplus_in_files, surplus, judged, judged_out, verdict}
use Rattle.model.proofs.Models.{model_reads, reads_exactly_lem}
use Rattle.model.proofs.Exact.{Good}
use Rattle.rules.specs.Meets.{Meets, Loads, LoadsExactly, NameMeets}
use Rattle.rules.proofs.Empty.{append_nil_both, cond_nil, drop_nil, passed}
use Rattle.rules.proofs.Items.{names-meet, values-meet, attributes-meet}
use Rattle.rules.proofs.Counts.{same_text, DeclaresFew, RefersFew, files_nil}
use Rattle.rules.proofs.Siblings.{siblings_nil}

root-meets : (m : Module) → (root_name m ≡ []) ↔ (module_name m ≡ builtins → ⊥)
root-meets m = Iff.trans (cond_nil (same_text_of (module_name m) builtins) (module_place m)) (
  λ f e. both_ways (same_text_of (module_name m) builtins) f ((same_text (module_name m) builtins).1 e),
  λ h. elim (cases_Bool (same_text_of (module_name m) builtins)) [ inl t ↦ absurd (h ((same_text (module_name m) builtins).0 t)) | inr f ↦ f ],
)

modules-meet : (m : Module) → (surplus_modules m ≡ []) ↔ (length (files m) ≤ 128)
modules-meet m = subst (λ n. (surplus_modules m ≡ []) ↔ (n ≤ 128)) (length-map (files m) module_place) (drop_nil 128 (map module_place (files m)))

-- a tree passes exactly if it meets the rules
pub judged-meets : (m : Module) → (judged m ≡ accepted) ↔ Meets m
judged-meets m =
    Iff.trans (Iff.trans (passed 3 (broken_names m) _) (Iff.and names (Iff.trans (passed 4 (broken_values m) _) (Iff.and (values-meet (module_items m)) (Iff.trans (passed 5 (repeated_modules m) _) (Iff.and (siblings_nil m) (Iff.trans (passed 6 (empty_attributes m) _) (Iff.and (attributes-meet (module_items m)) (Iff.trans (passed 7 (surplus m) _) (Iff.and few Iff.rfl)))))))))) (
      λ h. record { names = h.0.1; root = h.0.0; values = h.1.0; siblings = h.1.1.0; attributes = h.1.1.1.0; modules = h.1.1.1.1.0.0; declared = h.1.1.1.1.0.1.0; references = h.1.1.1.1.0.1.1 },
      λ h. ((h.root, h.names), (h.values, (h.siblings, (h.attributes, ((h.modules, (h.declared, h.references)), refl))))),
    )
  where
    names : (broken_names m ≡ []) ↔ ((module_name m ≡ builtins → ⊥) × AllByRecursion NameMeets (module_items m))
    names = Iff.trans (append_nil_both (root_name m) (places_of broken_name (module_items m))) (Iff.and (root-meets m) (names-meet (module_items m)))

    few : (surplus m ≡ []) ↔ ((length (files m) ≤ 128) × (AllByRecursion DeclaresFew (files m) × AllByRecursion RefersFew (files m)))
    few = Iff.trans (append_nil_both (surplus_modules m) (surplus_in_files (files m))) (Iff.and (modules-meet m) (files_nil (files m)))

sized : (b : Bool) (v : Verdict) → (cond b (refused 1 0) v ≡ accepted) ↔ ((b ≡ false) × (v ≡ accepted))
sized true v = (λ e. let z : ◌≡◌ {A = ℕ} 0 1 = cc in absurd (omega arith), λ h. let f = h.0 in let z : ◌≡◌ {A = ℕ} 0 1 = cc in absurd (omega arith))
sized false v = (λ e. (refl, e), λ h. h.1)

-- the tree of what is accepted
tree_of : (bs : List ℕ) → Bytes bs → (o : Out Module) → model bs ≡ o → judged_out o ≡ accepted → (m : Module) × (Describes bs m × Meets m)
tree_of bs b (read m r) e h = (m, (subst (Good (λ m _. Describes bs m)) e (model_reads bs b), (judged-meets m).0 h))
tree_of bs b (fault p) e h = let z : ◌≡◌ {A = ℕ} 0 1 = cc in absurd (omega arith)

pub loads_exactly_lem : LoadsExactly
loads_exactly_lem bs b = (to, from)
  where
    to : verdict bs ≡ accepted → Loads bs
    to e =
        let one = (sized (eqb (length bs) 0) _).0 e in
        let two = (sized (ltb 16384 (length bs)) _).0 one.1 in
        let t = tree_of bs b (model bs) refl two.1 in
        let z : length bs ≡ 0 → ⊥ = eqb-false (length bs) 0 one.0 in
        record { tree = t.0; some = positive (length bs) z; few = ltb-false 16384 (length bs) two.0; describes = t.1.0; meets = t.1.1 }
      where
        positive : (k : ℕ) → (k ≡ 0 → ⊥) → 1 ≤ k
        positive zero h = absurd (h refl)
        positive (suc k) h = omega arith

    from : Loads bs → verdict bs ≡ accepted
    from l =
        (sized (eqb (length bs) 0) _).1 (ne_eqb (length bs) 0 (λ z. omega arith), (sized (ltb 16384 (length bs)) _).1 (le-ltb 16384 (length bs) l.few, ap judged_out ((reads_exactly_lem bs b l.tree).1 l.describes) ∙ (judged-meets l.tree).1 l.meets))
