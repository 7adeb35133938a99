-- A model is refused by the first number that shows, at its least place.
use Rattle.std.proofs.Common.{◌≡◌, ℕ, ◌<◌, ◌≤◌, min, ◌⊎◌, List, [], ◌∷◌, Some, None, Option, sym, refl, ap, ◌∙◌, subst, inl, inr, ⊎_elim, arith, lit<}
use Rattle.std.proofs.lemmas.Bool.{cases_lt}
use Rattle.model.specs.Tree.{Module}
use Rattle.model.specs.Rules.{least, sooner}
use Rattle.model.specs.Verdict.{Verdict, accepted, refused, refused_at, judged, judged_out, verdict}
use Rattle.model.proofs.Sized.{within_size}
use Rattle.rules.specs.Refusals.{Among, rules, ShowsIn, FirstIn, RefusesFirst}

none-among : (ys : List ℕ) (q : ℕ) → least ys ≡ None → Among q ys → ⊥
none-among [] q n a = a
none-among (y ∷ ys) q n a = let z : ◌≡◌ {A = ℕ} 0 1 = cc in omega arith

lesser : (a b : ℕ) → (min a b ≡ a) ⊎ (min a b ≡ b)
lesser a b = ⊎_elim (λ h. inl (omega arith)) (λ h. inr (omega arith)) (cases_lt a b)

-- the least of some places is one of them, and no other is less
LeastOf : List ℕ → ℕ → Type 0
LeastOf xs p = Among p xs × ((q : ℕ) → Among q xs → p ≤ q)

least-among : (xs : List ℕ) (p : ℕ) → least xs ≡ Some p → LeastOf xs p
unfolding LeastOf
least-among [] p e = let z : ◌≡◌ {A = ℕ} 0 1 = cc in absurd (omega arith)
least-among (x ∷ xs) p e = go (least xs) refl (least-among xs)
  where
    go : (o : Option ℕ) → least xs ≡ o → ((q : ℕ) → least xs ≡ Some q → LeastOf xs q) → LeastOf (x ∷ xs) p
    go None h ih =
        let g : Some (sooner x (least xs)) ≡ Some x = ap (λ (o : Option ℕ). Some (sooner x o)) h in
        let s : p ≡ x = cc in
        (inl s, λ q. ⊎_elim (λ d. omega arith) (λ a. absurd (none-among xs q h a)))
    go (Some q) h ih =
        let t = ih q h in
        let g : Some (sooner x (least xs)) ≡ Some (min x q) = ap (λ (o : Option ℕ). Some (sooner x o)) h in
        let s : p ≡ min x q = cc in
        (⊎_elim (λ d. inl (s ∙ d)) (λ d. inr (subst (λ (y : ℕ). Among y xs) (sym (s ∙ d)) t.0)) (lesser x q), λ r. ⊎_elim (λ d. omega arith) (λ a. let u : q ≤ r = t.1 r a in omega arith))

-- rules in the order of their numbers
Above : ℕ → List (ℕ × List ℕ) → Type 0
Above n [] = Unit {0}
Above n (r ∷ rs) = (n < r.0) × Above n rs

Ascending : List (ℕ × List ℕ) → Type 0
Ascending [] = Unit {0}
Ascending (r ∷ rs) = Above r.0 rs × Ascending rs

above_shows : (n : ℕ) (rs : List (ℕ × List ℕ)) (k p : ℕ) → Above n rs → ShowsIn rs k p → n < k
unfolding Above
above_shows n [] k p a s = absurd s
above_shows n (r ∷ rs) k p a s = ⊎_elim (λ d. let e : k ≡ r.0 = d.0 in let l : n < r.0 = a.0 in omega arith) (λ t. above_shows n rs k p a.1 t) s

chain : List (ℕ × List ℕ) → Verdict
chain [] = accepted
chain (r ∷ rs) = refused_at r.0 (least r.1) (chain rs)

first-told : (rs : List (ℕ × List ℕ)) (k p : ℕ) → Ascending rs → chain rs ≡ refused k p → FirstIn rs k p
unfolding chain Ascending LeastOf
first-told [] k p a e = let z : ◌≡◌ {A = ℕ} 0 1 = cc in absurd (omega arith)
first-told (r ∷ rs) k p a e = go (least r.1) refl (first-told rs k p a.1)
  where
    go : (o : Option ℕ) → least r.1 ≡ o → (chain rs ≡ refused k p → FirstIn rs k p) → FirstIn (r ∷ rs) k p
    go None h ih =
        let g : refused_at r.0 (least r.1) (chain rs) ≡ chain rs = ap (λ (o : Option ℕ). refused_at r.0 o (chain rs)) h in
        let f = ih (sym g ∙ e) in
        record { shows = inr f.shows; least = λ q. ⊎_elim (λ d. absurd (none-among r.1 q h d.1)) (f.least q); lowest = λ j q l. ⊎_elim (λ d. none-among r.1 q h d.1) (f.lowest j q l) }
    go (Some q) h ih =
        let g : refused_at r.0 (least r.1) (chain rs) ≡ refused r.0 q = ap (λ (o : Option ℕ). refused_at r.0 o (chain rs)) h in
        let t = least-among r.1 q h in
        let ek : k ≡ r.0 = cc in
        let ep : p ≡ q = cc in
        record { shows = inl (ek, subst (λ (x : ℕ). Among x r.1) (sym ep) t.0); least = λ x. ⊎_elim (λ d. let u : q ≤ x = t.1 x d.1 in omega arith) (λ s. let u : r.0 < k = above_shows r.0 rs k x a.0 s in absurd (omega arith)); lowest = λ j x l. ⊎_elim (λ d. let u : j ≡ r.0 = d.0 in omega arith) (λ s. let u : r.0 < j = above_shows r.0 rs j x a.0 s in omega arith) }

told-first : (rs : List (ℕ × List ℕ)) (k p : ℕ) → Ascending rs → FirstIn rs k p → chain rs ≡ refused k p
unfolding chain Ascending LeastOf
told-first [] k p a f = absurd f.shows
told-first (r ∷ rs) k p a f = go (least r.1) refl (told-first rs k p a.1)
  where
    go : (o : Option ℕ) → least r.1 ≡ o → (FirstIn rs k p → chain rs ≡ refused k p) → refused_at r.0 (least r.1) (chain rs) ≡ refused k p
    go None h ih =
        ap (λ (o : Option ℕ). refused_at r.0 o (chain rs)) h ∙ ih (record { shows = ⊎_elim (λ d. absurd (none-among r.1 p h d.1)) (λ s. s) f.shows; least = λ q s. f.least q (inr s); lowest = λ j q l s. f.lowest j q l (inr s) })
    go (Some q) h ih =
        let t = least-among r.1 q h in
        ap (λ (o : Option ℕ). refused_at r.0 o (chain rs)) h ∙ ⊎_elim (λ d. let l : p ≤ q = f.least q (inl (d.0, t.0)) in let u : q ≤ p = t.1 p d.1 in let v : p ≡ q = omega arith in let w : k ≡ r.0 = d.0 in rw (v, w) refl) (λ s. let u : r.0 < k = above_shows r.0 rs k p a.0 s in absurd (f.lowest r.0 q u (inl (refl, t.0)))) f.shows

in_order : (m : Module) → Ascending (rules m)
unfolding Ascending Above
in_order m = ((lit< tt, (lit< tt, (lit< tt, (lit< tt, tt)))), ((lit< tt, (lit< tt, (lit< tt, tt))), ((lit< tt, (lit< tt, tt)), ((lit< tt, tt), (tt, tt)))))

judged-chain : (m : Module) → judged m ≡ chain (rules m)
unfolding chain
judged-chain m = refl

pub refuses_first_lem : RefusesFirst
refuses_first_lem bs z l m e k p =
    let v : verdict bs ≡ chain (rules m) = within_size bs (λ n. omega arith) l ∙ ap judged_out e ∙ judged-chain m in
    (λ h. first-told (rules m) k p (in_order m) (sym v ∙ h), λ f. v ∙ told-first (rules m) k p (in_order m) f)
