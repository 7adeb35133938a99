-- Names and targets stay bound one to one, with each binding that is made.
use Rattle.std.proofs.Common.{◌≡◌, ℕ, Bool, true, false, cond, ◌&&◌, ◌||◌, ltb, List, [], ◌∷◌, ◌++◌, Some, None, Option, sym, refl, ap, ◌∙◌, subst, arith}
use Rattle.std.proofs.lemmas.Bool.{and_from, and_parts, ltb-true, ltb-false, false≢true}
use Rattle.model.specs.Tree.{Text}
use Rattle.model.specs.Limits.{same_text_of, same_reference, occurs}
use Rattle.binding.specs.Binding.{Target, Binding, binding, Proposals, find, name_of, fits, allows, to_own}
use Rattle.binding.specs.Laws.{Proposes, Passed, Lowest, Lawful}
use Rattle.references.proofs.Ties.{text_itself, text-is, same_itself, same-is}

-- two different cases at once
pub none-some : {A C : Type 0} {x : A} (o : Option A) → o ≡ None → o ≡ Some x → C
none-some o a b = let z : ◌≡◌ {A = ℕ} 0 1 = cc in absurd (omega arith)

abbrev pub or_else : {A : Type 0} → Option A → Option A → Option A
or_else None y = y
or_else (Some x) y = Some x

-- ---- declared names

pub find-declared : (own : Text) (ds : List Text) (w : Text) → find (to_own own ds) w ≡ cond (occurs same_text_of w ds) (Some (own, w)) None
find-declared own [] w = refl
find-declared own (d ∷ ds) w = go (same_text_of w d) refl (find-declared own ds w)
  where
    go : (c : Bool) → same_text_of w d ≡ c → find (to_own own ds) w ≡ cond (occurs same_text_of w ds) (Some (own, w)) None
        → cond c (Some (own, d)) (find (to_own own ds) w) ≡ cond (c || occurs same_text_of w ds) (Some (own, w)) None
    go true e more = ap (λ x. Some (own, x)) (sym (text-is w d e))
    go false e more = more

name-declared : (own : Text) (ds : List Text) (t : Target) → name_of (to_own own ds) t ≡ cond (same_text_of t.0 own && occurs same_text_of t.1 ds) (Some t.1) None
name-declared own [] t = go (same_text_of t.0 own)
  where
    go : (c : Bool) → None ≡ cond (c && false) (Some t.1) None
    go true = refl
    go false = refl
name-declared own (d ∷ ds) t = go (same_text_of t.0 own) (same_text_of t.1 d) refl (name-declared own ds t)
  where
    go : (a c : Bool) → same_text_of t.1 d ≡ c → name_of (to_own own ds) t ≡ cond (a && occurs same_text_of t.1 ds) (Some t.1) None
        → cond (a && c) (Some d) (name_of (to_own own ds) t) ≡ cond (a && (c || occurs same_text_of t.1 ds)) (Some t.1) None
    go true true e more = ap Some (sym (text-is t.1 d e))
    go true false e more = more
    go false c e more = more

-- what is told by a test
pub told : {A : Type 0} {x y : A} (c : Bool) → cond c (Some x) None ≡ Some y → (c ≡ true) × (x ≡ y)
told true h = (refl, cc)
told false h = none-some None refl h

declared-named : (own : Text) (ds : List Text) (w : Text) (t : Target) → find (to_own own ds) w ≡ Some t → name_of (to_own own ds) t ≡ Some w
declared-named own ds w t h =
    let p = told (occurs same_text_of w ds) (sym (find-declared own ds w) ∙ h) in
    subst (λ s. name_of (to_own own ds) s ≡ Some w) p.1
    (name-declared own ds (own, w) ∙ ap (λ c. cond c (Some w) None) (and_from (same_text_of own own) (occurs same_text_of w ds) (text_itself own) p.0))

declared-bound : (own : Text) (ds : List Text) (w : Text) (t : Target) → name_of (to_own own ds) t ≡ Some w → find (to_own own ds) w ≡ Some t
declared-bound own ds w t h =
    let p = told (same_text_of t.0 own && occurs same_text_of t.1 ds) (sym (name-declared own ds t) ∙ h) in
    let q = and_parts (same_text_of t.0 own) (occurs same_text_of t.1 ds) p.0 in
    let e : t.0 ≡ own = text-is t.0 own q.0 in
    find-declared own ds w ∙ (λ i. cond (occurs same_text_of (sym p.1 i) ds) (Some (sym e i, sym p.1 i)) None) ∙ ap (λ c. cond c (Some t) None) q.1

pub fits_bound : (b : List Binding) (t : Target) (w : Text) → find b w ≡ Some t → fits b t w ≡ true
fits_bound b t w h = ap (λ o. allows o t) h ∙ same_itself t

pub declared-lawful : (propose : Proposals) → Proposes propose → (own : Text) (ds : List Text) → Lawful propose (to_own own ds)
declared-lawful propose p own ds = record {
  named = declared-named own ds;
  bound = declared-bound own ds;
  lowest = λ w t h. record {
    number = 0;
    is = p.first t ∙ ap (λ s. Some s.1) (sym (told (occurs same_text_of w ds) (sym (find-declared own ds w) ∙ h)).1);
    fitting = fits_bound (to_own own ds) t w h;
    lower = λ i l. absurd (omega arith);
  };
}

-- ---- one binding more

pub find-more : (b : List Binding) (e : Binding) (w : Text) → find (b ++ e ∷ []) w ≡ or_else (find b w) (cond (same_text_of w e.name) (Some e.target) None)
find-more [] e w = refl
find-more (x ∷ b) e w = go (same_text_of w x.name) (find-more b e w)
  where
    go : (c : Bool) → find (b ++ e ∷ []) w ≡ or_else (find b w) (cond (same_text_of w e.name) (Some e.target) None)
        → cond c (Some x.target) (find (b ++ e ∷ []) w) ≡ or_else (cond c (Some x.target) (find b w)) (cond (same_text_of w e.name) (Some e.target) None)
    go true more = refl
    go false more = more

pub name-more : (b : List Binding) (e : Binding) (t : Target) → name_of (b ++ e ∷ []) t ≡ or_else (name_of b t) (cond (same_reference t e.target) (Some e.name) None)
name-more [] e t = refl
name-more (x ∷ b) e t = go (same_reference t x.target) (name-more b e t)
  where
    go : (c : Bool) → name_of (b ++ e ∷ []) t ≡ or_else (name_of b t) (cond (same_reference t e.target) (Some e.name) None)
        → cond c (Some x.name) (name_of (b ++ e ∷ []) t) ≡ or_else (cond c (Some x.name) (name_of b t)) (cond (same_reference t e.target) (Some e.name) None)
    go true more = refl
    go false more = more

-- what was bound stays bound
pub find_kept : (b : List Binding) (e : Binding) (w : Text) (t : Target) → find b w ≡ Some t → find (b ++ e ∷ []) w ≡ Some t
find_kept b e w t h = find-more b e w ∙ ap (λ o. or_else o (cond (same_text_of w e.name) (Some e.target) None)) h

pub name_kept : (b : List Binding) (e : Binding) (w : Text) (t : Target) → name_of b t ≡ Some w → name_of (b ++ e ∷ []) t ≡ Some w
name_kept b e w t h = name-more b e t ∙ ap (λ o. or_else o (cond (same_reference t e.target) (Some e.name) None)) h

passed_kept : (b : List Binding) (e : Binding) (t : Target) (o : Option Text) → Passed b t o → Passed (b ++ e ∷ []) t o
passed_kept b e t None h = h
passed_kept b e t (Some v) h = go (find b v) refl h
  where
    go : (o : Option Target) → find b v ≡ o → allows o t ≡ false → fits (b ++ e ∷ []) t v ≡ false
    go None is k = absurd (false≢true (sym k))
    go (Some s) is k = ap (λ x. allows x t) (find_kept b e v s is) ∙ k

lowest_kept : (propose : Proposals) (b : List Binding) (e : Binding) (w : Text) (t : Target) → Lowest propose b t w → fits (b ++ e ∷ []) t w ≡ true → Lowest propose (b ++ e ∷ []) t w
lowest_kept propose b e w t l f =
    record { number = l.number; is = l.is; fitting = f; lower = λ i h. passed_kept b e t (propose t i) (l.lower i h) }

-- what is found behind was there, or is the new one
pub found-more : {C : Type 0} (b : List Binding) (e : Binding) (w : Text) (t : Target) → find (b ++ e ∷ []) w ≡ Some t
    → (find b w ≡ Some t → C) → (find b w ≡ None → w ≡ e.name → e.target ≡ t → C) → C
found-more {C} b e w t h old new = go (find b w) refl (sym (find-more b e w) ∙ h)
  where
    go : (o : Option Target) → find b w ≡ o → or_else o (cond (same_text_of w e.name) (Some e.target) None) ≡ Some t → C
    go None is k = let p = told (same_text_of w e.name) k in new is (text-is w e.name p.0) p.1
    go (Some s) is k = old (is ∙ k)

pub named_more : {C : Type 0} (b : List Binding) (e : Binding) (w : Text) (t : Target) → name_of (b ++ e ∷ []) t ≡ Some w
    → (name_of b t ≡ Some w → C) → (name_of b t ≡ None → t ≡ e.target → e.name ≡ w → C) → C
named_more {C} b e w t h old new = go (name_of b t) refl (sym (name-more b e t) ∙ h)
  where
    go : (o : Option Text) → name_of b t ≡ o → or_else o (cond (same_reference t e.target) (Some e.name) None) ≡ Some w → C
    go None is k = let p = told (same_reference t e.target) k in new is (same-is t e.target p.0) p.1
    go (Some s) is k = old (is ∙ k)

-- the new binding itself
pub find-new : (b : List Binding) (w : Text) (t : Target) → find b w ≡ None → find (b ++ binding w t ∷ []) w ≡ Some t
find-new b w t h =
    find-more b (binding w t) w ∙ (λ i. or_else (h i) (cond (text_itself w i) (Some t) None))

pub name_new : (b : List Binding) (w : Text) (t : Target) → name_of b t ≡ None → name_of (b ++ binding w t ∷ []) t ≡ Some w
name_new b w t h =
    name-more b (binding w t) t ∙ (λ i. or_else (h i) (cond (same_itself t i) (Some w) None))

pub lawful-more : (propose : Proposals) (b : List Binding) (w : Text) (t : Target) → Lawful propose b → Lowest propose b t w → find b w ≡ None → name_of b t ≡ None
    → Lawful propose (b ++ binding w t ∷ [])
lawful-more propose b w t g l free unnamed = record {
  named = λ v s h. found-more b (binding w t) v s h
      (λ old. name_kept b (binding w t) v s (g.named v s old))
      (λ _ e f. subst (λ x. name_of (b ++ binding w t ∷ []) x ≡ Some v) f (name_new b w t unnamed ∙ ap Some (sym e)));
  bound = λ v s h. named_more b (binding w t) v s h
      (λ old. find_kept b (binding w t) v s (g.bound v s old))
      (λ _ e f. subst (λ x. find (b ++ binding w t ∷ []) x ≡ Some s) f (find-new b w t free ∙ ap Some (sym e)));
  lowest = λ v s h. found-more b (binding w t) v s h
      (λ old. lowest_kept propose b (binding w t) v s (g.lowest v s old) (fits_bound (b ++ binding w t ∷ []) s v h))
      (λ _ e f. subst (λ x. Lowest propose (b ++ binding w t ∷ []) x v) f
      (subst (λ x. Lowest propose (b ++ binding w t ∷ []) t x) (sym e) (lowest_kept propose b (binding w t) w t l (fits_bound (b ++ binding w t ∷ []) t w (find-new b w t free)))));
}

-- two lowest proposals are one
pub one-lowest : (propose : Proposals) (b : List Binding) (t : Target) (v w : Text) → Lowest propose b t v → Lowest propose b t w → v ≡ w
one-lowest propose b t v w l m = go (ltb l.number m.number) refl (ltb m.number l.number) refl
  where
    clash : (i : ℕ) (x : Text) → propose t i ≡ Some x → fits b t x ≡ true → Passed b t (propose t i) → ⊥
    clash i x is f p = let q : fits b t x ≡ false = subst (Passed b t) is p in false≢true (sym q ∙ f)

    go : (a : Bool) → ltb l.number m.number ≡ a → (c : Bool) → ltb m.number l.number ≡ c → v ≡ w
    go true e c f = absurd (clash l.number v l.is l.fitting (m.lower l.number (ltb-true l.number m.number e)))
    go false e true f = absurd (clash m.number w m.is m.fitting (l.lower m.number (ltb-true m.number l.number f)))
    go false e false f =
        let x = ltb-false l.number m.number e in
        let y = ltb-false m.number l.number f in
        let n : l.number ≡ m.number = omega arith in
        let z : Some v ≡ Some w = sym l.is ∙ ap (propose t) n ∙ m.is in
        cc

-- a target that has a name is not named again
pub unnamed_where_free : (propose : Proposals) (b : List Binding) (t : Target) (w : Text) → Lawful propose b → Lowest propose b t w → find b w ≡ None → name_of b t ≡ None
unnamed_where_free propose b t w g l free = go (name_of b t) refl
  where
    go : (o : Option Text) → name_of b t ≡ o → o ≡ None
    go None is = refl
    go (Some v) is =
        let f = g.bound v t is in
        let e = one-lowest propose b t v w (g.lowest v t f) l in
        none-some (find b w) free (ap (find b) (sym e) ∙ f)
