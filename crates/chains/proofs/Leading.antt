-- A base leads: it has the parts that Python counts from.
use Rattle.std.proofs.Common.{◌≡◌, ℕ, true, false, List, [], ◌∷◌, ◌++◌, Some, sym, refl, ap, ◌∙◌, arith}
use Rattle.std.specs.List.{AllByRecursion}
use Rattle.std.specs.Str.{bytes_eq}
use Rattle.std.proofs.lemmas.Bool.{cond-true, cond-false, or_right, or_from, ne_eqb}
use Rattle.paths.specs.Paths.{first_part, split, join, join_from, relative_text, read_path, resolve}
use Rattle.paths.specs.Laws.{NoDot, SomeByte}
use Rattle.paths.proofs.Names.{split-join, no_dot_split}
use Rattle.paths.proofs.Leads.{paths_read_lem, texts_resolve_lem}
use Rattle.chains.specs.Chains.{has_dot, before_last_dot}
use Rattle.chains.specs.Laws.{without_last, BasesLead, ImportsResolve}
use Rattle.chains.proofs.Dots.{before-none}

no_dot : (p : List ℕ) → NoDot p → has_dot p ≡ false
no_dot [] h = refl
no_dot (b ∷ p) h = or_from _ _ (ne_eqb b 46 h.0) (no_dot p h.1)

dot_inside : (p s : List ℕ) → has_dot (p ++ 46 ∷ s) ≡ true
dot_inside [] s = refl
dot_inside (b ∷ p) s = or_right _ _ (dot_inside p s)

-- what follows has no dot
before-end : (p s : List ℕ) → has_dot s ≡ false → before_last_dot (p ++ 46 ∷ s) ≡ p
before-end [] s h = cond-false _ _ _ h
before-end (b ∷ p) s h = cond-true _ _ _ (dot_inside p s) ∙ ap (λ x. b ∷ x) (before-end p s h)

-- what follows has one
before_more : (p s : List ℕ) → has_dot s ≡ true → before_last_dot (p ++ 46 ∷ s) ≡ p ++ 46 ∷ before_last_dot s
before_more [] s h = cond-true _ _ _ h
before_more (b ∷ p) s h = cond-true _ _ _ (dot_inside p s) ∙ ap (λ x. b ∷ x) (before_more p s h)

parent-joined : (p : List ℕ) (ps : List (List ℕ)) → AllByRecursion NoDot (p ∷ ps) → before_last_dot (join_from p ps) ≡ join (without_last (p ∷ ps))
parent-joined p [] h = before-none p (no_dot p h.0)
parent-joined p (q ∷ []) h = before-end p q (no_dot q h.1.0)
parent-joined p (q ∷ (r ∷ rs)) h =
    before_more p (q ++ 46 ∷ join_from r rs) (dot_inside q (join_from r rs)) ∙ ap (λ x. p ++ 46 ∷ x) (parent-joined q (r ∷ rs) h.1)

no_dot_front : (p : List ℕ) (ps : List (List ℕ)) → AllByRecursion NoDot (p ∷ ps) → AllByRecursion NoDot (without_last (p ∷ ps))
no_dot_front p [] h = tt
no_dot_front p (q ∷ qs) h = (h.0, no_dot_front q qs h.1)

parent-split : (p q : List ℕ) (qs : List (List ℕ)) → AllByRecursion NoDot (p ∷ (q ∷ qs)) → split (before_last_dot (join_from p (q ∷ qs))) ≡ without_last (p ∷ (q ∷ qs))
parent-split p q qs h = ap split (parent-joined p (q ∷ qs) h) ∙ split-join p (without_last (q ∷ qs)) h.0 (no_dot_front q qs h.1)

pub bases_lead_lem : BasesLead
bases_lead_lem = record { of_package = λ p ps h. split-join p ps h.0 h.1; of_plain = parent-joined; parent = parent-split }

-- with no package to count from, the path is the target itself

nothing-common : (t : List ℕ) → SomeByte t → bytes_eq [] t ≡ false
nothing-common [] w = absurd (omega arith)
nothing-common (b ∷ t) w = refl

pub from_nowhere : (base : List (List ℕ)) (target : List ℕ) → AllByRecursion SomeByte (split target) → resolve base (read_path (relative_text [] target)) ≡ Some (split target)
unfolding relative_text
from_nowhere base target w =
    rw (nothing-common (first_part target) w.0) (ap (resolve base) (paths_read_lem (record { dots = 0; parts = split target }) w (no_dot_split target)))

pub imports-resolve : ImportsResolve
imports-resolve [] h true target w = from_nowhere [] target w
imports-resolve [] h false target w = from_nowhere [] target w
imports-resolve (p ∷ ps) h true target w =
    ap (λ base. resolve base (read_path (relative_text (join_from p ps) target))) (sym (split-join p ps h.0 h.1)) ∙ texts_resolve_lem (join_from p ps) target w
imports-resolve (p ∷ []) h false target w =
    ap (λ base. resolve [] (read_path (relative_text base target))) (parent-joined p [] h) ∙ from_nowhere [] target w
imports-resolve (p ∷ (q ∷ qs)) h false target w =
    ap (λ base. resolve base (read_path (relative_text (before_last_dot (join_from p (q ∷ qs))) target))) (sym (parent-split p q qs h)) ∙ texts_resolve_lem (before_last_dot (join_from p (q ∷ qs))) target w
