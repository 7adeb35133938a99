-- Lists of places that are empty, and what a verdict says of them.
use Rattle.std.proofs.Common.{◌≡◌, ℕ, ◌≤◌, Bool, true, false, cond, ◌↔◌, List, [], ◌∷◌, ◌++◌, length, drop, sym, refl, ap, ◌∙◌, arith}
use Rattle.std.specs.List.{AllByRecursion}
use mathlib.Core.Logic.Iff
use Rattle.std.proofs.lemmas.List.{drop_all, length-drop}
use Rattle.model.specs.Rules.{unless, least}
use Rattle.model.specs.Verdict.{Verdict, accepted, refused_at}

pub not_nil : {A : Type 0} (x : A) (xs : List A) → x ∷ xs ≡ [] → ⊥
not_nil x xs e = omega (arith, ap length e)

pub append_nil_both : {A : Type 0} (xs ys : List A) → (xs ++ ys ≡ []) ↔ ((xs ≡ []) × (ys ≡ []))
append_nil_both [] ys = (λ e. (refl, e), λ h. h.1)
append_nil_both (x ∷ xs) ys = (λ e. absurd (not_nil x (xs ++ ys) e), λ h. absurd (not_nil x xs h.0))

pub cond_nil : (b : Bool) (p : ℕ) → (cond b (p ∷ []) [] ≡ []) ↔ (b ≡ false)
cond_nil true p = (λ e. absurd (not_nil p [] e), λ e. let z : ◌≡◌ {A = ℕ} 0 1 = cc in absurd (omega arith))
cond_nil false p = (λ e. refl, λ e. refl)

pub unless_nil : (b : Bool) (p : ℕ) → (unless b p ≡ []) ↔ (b ≡ true)
unless_nil true p = (λ e. refl, λ e. refl)
unless_nil false p = (λ e. absurd (not_nil p [] e), λ e. let z : ◌≡◌ {A = ℕ} 0 1 = cc in absurd (omega arith))

pub drop_nil : {A : Type 0} (n : ℕ) (xs : List A) → (drop n xs ≡ []) ↔ (length xs ≤ n)
drop_nil n xs = (λ e. omega (arith, ap length e, length-drop n xs), drop_all n xs)

-- f tells the places of one thing and F those of all
pub all_nil : {X : Type 0} (f : X → List ℕ) (P : X → Type 0) (F : List X → List ℕ) → ((x : X) → (f x ≡ []) ↔ P x) → F [] ≡ [] → ((x : X) (xs : List X) → F (x ∷ xs) ≡ f x ++ F xs) → (xs : List X) → (F xs ≡ []) ↔ AllByRecursion P xs
all_nil f P F each none more [] = (λ e. tt, λ h. none)
all_nil f P F each none more (x ∷ xs) =
    let both = Iff.trans (append_nil_both (f x) (F xs)) (Iff.and (each x) (all_nil f P F each none more xs)) in
    (λ e. both.0 (sym (more x xs) ∙ e), λ h. more x xs ∙ both.1 h)

-- a number is passed over exactly if it shows nowhere
pub passed : (k : ℕ) (xs : List ℕ) (v : Verdict) → (refused_at k (least xs) v ≡ accepted) ↔ ((xs ≡ []) × (v ≡ accepted))
passed k [] v = (λ e. (refl, e), λ h. h.1)
passed k (x ∷ xs) v = (λ e. let z : ◌≡◌ {A = ℕ} 0 1 = cc in absurd (omega arith), λ h. absurd (not_nil x xs h.0))

pub all_both : {X : Type 0} (P Q : X → Type 0) (xs : List X) → AllByRecursion (λ x. P x × Q x) xs ↔ (AllByRecursion P xs × AllByRecursion Q xs)
all_both P Q [] = (λ h. (tt, tt), λ h. tt)
all_both P Q (x ∷ xs) =
    let rest = all_both P Q xs in
    (λ h. ((h.0.0, (rest.0 h.1).0), (h.0.1, (rest.0 h.1).1)), λ h. ((h.0.0, h.1.0), rest.1 (h.0.1, h.1.1)))

pub all-parts : {X : Type 0} (P : X → Type 0) (xs ys : List X) → AllByRecursion P (xs ++ ys) ↔ (AllByRecursion P xs × AllByRecursion P ys)
all-parts P [] ys = (λ h. (tt, h), λ h. h.1)
all-parts P (x ∷ xs) ys =
    let rest = all-parts P xs ys in
    (λ h. ((h.0, (rest.0 h.1).0), (rest.0 h.1).1), λ h. (h.0.0, rest.1 (h.0.1, h.1)))

pub all_same : {X : Type 0} (P Q : X → Type 0) → ((x : X) → P x ↔ Q x) → (xs : List X) → AllByRecursion P xs ↔ AllByRecursion Q xs
all_same P Q each [] = (λ h. tt, λ h. tt)
all_same P Q each (x ∷ xs) = Iff.and (each x) (all_same P Q each xs)
