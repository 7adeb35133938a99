-- What the names of a file tell, step by step.
use Rattle.std.proofs.Common.{◌≡◌, ℕ, Bool, true, false, cond, ◌||◌, ◌⊎◌, List, [], ◌∷◌, ◌++◌, is_some, Some, None, Option, sym, refl, ap, ◌∙◌, subst, inl, inr, arith, MatchOption}
use Rattle.std.specs.List.{AllByRecursion}
use Rattle.std.proofs.lemmas.Bool.{false≢true, or_right}
use Rattle.model.specs.Tree.{Text}
use Rattle.model.specs.Limits.{same_text_of, occurs}
use Rattle.text.specs.Names.{spelled}
use Rattle.references.specs.References.{Reference}
use Rattle.naming.proofs.Proposed.{proposals_differ_lem, proposals_shaped_lem}
use Rattle.binding.specs.Binding.{Target, Binding, binding, Proposals, by_number, find, name_of, allows, taken, added, bind_to, step, target_of, bound, exhausted, onward, take_all_of, once_after_of, once, declared_by}
use Rattle.binding.specs.Laws.{Proposes, Lowest, Exhausted, Lawful, Member, Tells, RunsOut, NamesTell}
use Rattle.references.proofs.Ties.{text_itself, text-is, same-is}
use Rattle.binding.proofs.Seeking.{takes_lowest}
use Rattle.binding.proofs.Ors.{or_behind, or_grouped}
use Rattle.binding.proofs.Binds.{none-some, declared-lawful, find_kept, lawful-more, unnamed_where_free, name_new, found-more, find-declared, told}

pub proposes-by_number : Proposes by_number
proposes-by_number = record { first = λ t. refl; differ = λ t. proposals_differ_lem t.1; shaped = λ t. proposals_shaped_lem t.1 }

-- ---- a step

module _ (propose : Proposals) (p : Proposes propose) where
  -- what was bound stays bound, the target has a name, and nothing else is new
  pub record Went (b : List Binding) (t : Target) (c : List Binding) : Type 0 where
    pub lawful : Lawful propose c
    pub kept : (w : Text) (s : Target) → find b w ≡ Some s → find c w ≡ Some s
    pub here : is_some (name_of c t) ≡ true
    pub new : (w : Text) (s : Target) → find c w ≡ Some s → (find b w ≡ Some s) ⊎ (s ≡ t)

  pub taken-lowest : (b : List Binding) (t : Target) (w : Text) → taken propose b t ≡ Some w → Lowest propose b t w
  taken-lowest b t w e = subst (λ o. MatchOption o (Exhausted propose b t) (Lowest propose b t)) e (takes_lowest propose p b t)

  pub taken_none : (b : List Binding) (t : Target) → taken propose b t ≡ None → Exhausted propose b t
  taken_none b t e = subst (λ o. MatchOption o (Exhausted propose b t) (Lowest propose b t)) e (takes_lowest propose p b t)

  step-none : {C : Type 0} (b : List Binding) (t : Target) → step propose b t ≡ None → (taken propose b t ≡ None → C) → C
  step-none {C} b t e use-it = go (taken propose b t) refl e
    where
      go : (o : Option Text) → taken propose b t ≡ o → bind_to b t o ≡ None → C
      go None is h = use-it is
      go (Some w) is h = none-some (Some (added (find b w) b (binding w t))) h refl

  allowed_same : (s t : Target) → allows (Some s) t ≡ true → s ≡ t
  allowed_same s t h = sym (same-is t s h)

  pub went : (b : List Binding) (t : Target) (c : List Binding) → Lawful propose b → step propose b t ≡ Some c → Went b t c
  went b t c g e = go (taken propose b t) refl e
    where
      bind_to-some : (w : Text) → taken propose b t ≡ Some w → (o : Option Target) → find b w ≡ o → added o b (binding w t) ≡ c → Went b t c
      bind_to-some w is None free h =
          let l = taken-lowest b t w is in
          let u = unnamed_where_free propose b t w g l free in
          subst (Went b t) h record {
            lawful = lawful-more propose b w t g l free u;
            kept = find_kept b (binding w t);
            here = ap is_some (named_new u);
            new = λ v s k. new-more v s k;
          }
        where
          named_new : name_of b t ≡ None → name_of (b ++ binding w t ∷ []) t ≡ Some w
          named_new u = name_new b w t u

          new-more : (v : Text) (s : Target) → find (b ++ binding w t ∷ []) v ≡ Some s → (find b v ≡ Some s) ⊎ (s ≡ t)
          new-more v s k = found-more b (binding w t) v s k (λ old. inl old) (λ _ _ f. inr (sym f))
      bind_to-some w is (Some s) held h =
          let l = taken-lowest b t w is in
          let same : s ≡ t = allowed_same s t (ap (λ o. allows o t) (sym held) ∙ l.fitting) in
          subst (Went b t) h record {
            lawful = g;
            kept = λ v r k. k;
            here = ap is_some (g.named w t (held ∙ ap Some same));
            new = λ v r k. inl k;
          }

      go : (o : Option Text) → taken propose b t ≡ o → bind_to b t o ≡ Some c → Went b t c
      go None is h = none-some None refl h
      go (Some w) is h = bind_to-some w is (find b w) refl (cc)

  -- ---- all references

  record Passes (b : List Binding) (rs : List Reference) (c : List Binding) : Type 0 where
    lawful : Lawful propose c
    kept : (w : Text) (s : Target) → find b w ≡ Some s → find c w ≡ Some s
    each : (r : Reference) → Member r rs → is_some (name_of c (target_of r)) ≡ true
    new : (w : Text) (s : Target) → find c w ≡ Some s → (find b w ≡ Some s) ⊎ ((r : Reference) × Member r rs × (target_of r ≡ s))

  -- a name that a target has, it keeps
  still_named : (b c : List Binding) (t : Target) → Lawful propose b → Lawful propose c → ((w : Text) (s : Target) → find b w ≡ Some s → find c w ≡ Some s)
      → is_some (name_of b t) ≡ true → is_some (name_of c t) ≡ true
  still_named b c t g h kept is = go (name_of b t) refl is
    where
      go : (o : Option Text) → name_of b t ≡ o → is_some o ≡ true → is_some (name_of c t) ≡ true
      go None e x = absurd (false≢true x)
      go (Some w) e x = ap is_some (h.named w t (kept w t (g.bound w t e)))

  passes : (b : List Binding) (rs : List Reference) (c : List Binding) → Lawful propose b → take_all_of propose b rs ≡ bound c → Passes b rs c
  passes b [] c g e =
      let same : b ≡ c = cc in
      subst (Passes b []) same record { lawful = g; kept = λ w s k. k; each = λ r m. absurd m; new = λ w s k. inl k }
  passes b (r ∷ rs) c g e = go (step propose b (target_of r)) refl (λ d g' e'. passes d rs c g' e') e
    where
      go : (o : Option (List Binding)) → step propose b (target_of r) ≡ o → ((d : List Binding) → Lawful propose d → take_all_of propose d rs ≡ bound c → Passes d rs c)
          → onward o r (λ d. take_all_of propose d rs) ≡ bound c → Passes b (r ∷ rs) c
      go None is more h = let z : ◌≡◌ {A = ℕ} 0 1 = cc in absurd (omega arith)
      go (Some d) is more h =
          let w = went b (target_of r) d g is in
          let x = more d w.lawful h in
          record {
            lawful = x.lawful;
            kept = λ v s k. x.kept v s (w.kept v s k);
            each = λ q m. each_more w x q m;
            new = λ v s k. new-more w x v s (x.new v s k);
          }
        where
          each_more : Went b (target_of r) d → Passes d rs c → (q : Reference) → Member q (r ∷ rs) → is_some (name_of c (target_of q)) ≡ true
          each_more w x q (inl same) = subst (λ y. is_some (name_of c (target_of y)) ≡ true) (sym same) (still_named d c (target_of r) w.lawful x.lawful x.kept w.here)
          each_more w x q (inr m) = x.each q m

          new-more : Went b (target_of r) d → Passes d rs c → (v : Text) (s : Target) → (find d v ≡ Some s) ⊎ ((q : Reference) × Member q rs × (target_of q ≡ s))
              → (find b v ≡ Some s) ⊎ ((q : Reference) × Member q (r ∷ rs) × (target_of q ≡ s))
          new-more w x v s (inl k) = newer (w.new v s k)
            where
              newer : (find b v ≡ Some s) ⊎ (s ≡ target_of r) → (find b v ≡ Some s) ⊎ ((q : Reference) × Member q (r ∷ rs) × (target_of q ≡ s))
              newer (inl old) = inl old
              newer (inr here) = inr (r, inl refl, sym here)
          new-more w x v s (inr m) = inr (m.0, inr m.1, m.2)

  -- ---- no name is left

  record Stops (b : List Binding) (rs : List Reference) (r : Reference) : Type 0 where
    before : List Reference
    after : List Reference
    between : rs ≡ before ++ r ∷ after
    names : List Binding
    taken_before : take_all_of propose b before ≡ bound names
    none : Exhausted propose names (target_of r)

  stops : (b : List Binding) (rs : List Reference) (r : Reference) → take_all_of propose b rs ≡ exhausted r → Stops b rs r
  stops b [] r e = let z : ◌≡◌ {A = ℕ} 0 1 = cc in absurd (omega arith)
  stops b (q ∷ rs) r e = go (step propose b (target_of q)) refl (λ d. stops d rs r) e
    where
      go : (o : Option (List Binding)) → step propose b (target_of q) ≡ o → ((d : List Binding) → take_all_of propose d rs ≡ exhausted r → Stops d rs r)
          → onward o q (λ d. take_all_of propose d rs) ≡ exhausted r → Stops b (q ∷ rs) r
      go None is more h =
          let same : q ≡ r = cc in
          subst (Stops b (q ∷ rs)) same record {
            before = [];
            after = rs;
            between = refl;
            names = b;
            taken_before = refl;
            none = step-none b (target_of q) is (taken_none b (target_of q));
          }
      go (Some d) is more h =
          let s = more d h in
          record {
            before = q ∷ s.before;
            after = s.after;
            between = ap (λ l. q ∷ l) s.between;
            names = s.names;
            taken_before = ap (λ o. onward o q (λ c. take_all_of propose c s.before)) is ∙ s.taken_before;
            none = s.none;
          }

-- ---- the names of a file

occurs_member : (d : Text) (ds : List Text) → Member d ds → occurs same_text_of d ds ≡ true
occurs_member d [] m = absurd m
occurs_member d (x ∷ ds) (inl e) = ap (λ c. c || occurs same_text_of d ds) (subst (λ y. same_text_of d y ≡ true) e (text_itself d))
occurs_member d (x ∷ ds) (inr m) = or_right (same_text_of d x) (occurs same_text_of d ds) (occurs_member d ds m)

member_occurs : (d : Text) (ds : List Text) → occurs same_text_of d ds ≡ true → Member d ds
member_occurs d [] h = absurd (false≢true h)
member_occurs d (x ∷ ds) h = go (same_text_of d x) refl (member_occurs d ds) h
  where
    go : (c : Bool) → same_text_of d x ≡ c → (occurs same_text_of d ds ≡ true → Member d ds) → (c || occurs same_text_of d ds) ≡ true → Member d (x ∷ ds)
    go true e more k = inl (text-is d x e)
    go false e more k = inr (more k)

all_member : {A : Type 0} (P : A → Type 0) (xs : List A) (x : A) → AllByRecursion P xs → Member x xs → P x
all_member P [] x a m = absurd m
all_member P (y ∷ ys) x a (inl e) = subst P (sym e) a.0
all_member P (y ∷ ys) x a (inr m) = all_member P ys x a.1 m

once_after : (d : Text) (seen ds : List Text) → (occurs same_text_of d seen || occurs same_text_of d (once_after_of seen ds)) ≡ (occurs same_text_of d seen || occurs same_text_of d ds)
once_after d seen [] = refl
once_after d seen (x ∷ ds) = go (occurs same_text_of x seen) refl (once_after d seen ds) (once_after d (x ∷ seen) ds)
  where
    -- x itself came before
    older : (c : Bool) → same_text_of d x ≡ c → occurs same_text_of x seen ≡ true → (occurs same_text_of d seen || occurs same_text_of d ds) ≡ (occurs same_text_of d seen || (c || occurs same_text_of d ds))
    older true e h = ap (λ o. o || occurs same_text_of d ds) f ∙ sym (ap (λ o. o || (true || occurs same_text_of d ds)) f)
      where
        f : occurs same_text_of d seen ≡ true
        f = subst (λ y. occurs same_text_of y seen ≡ true) (sym (text-is d x e)) h
    older false e h = refl

    go : (c : Bool) → occurs same_text_of x seen ≡ c
        → (occurs same_text_of d seen || occurs same_text_of d (once_after_of seen ds)) ≡ (occurs same_text_of d seen || occurs same_text_of d ds)
        → (occurs same_text_of d (x ∷ seen) || occurs same_text_of d (once_after_of (x ∷ seen) ds)) ≡ (occurs same_text_of d (x ∷ seen) || occurs same_text_of d ds)
        → (occurs same_text_of d seen || occurs same_text_of d (cond c (once_after_of seen ds) (x ∷ once_after_of (x ∷ seen) ds))) ≡ (occurs same_text_of d seen || occurs same_text_of d (x ∷ ds))
    go true h one two = one ∙ older (same_text_of d x) refl h
    go false h one two =
        or_behind (occurs same_text_of d seen) (same_text_of d x) (occurs same_text_of d (once_after_of (x ∷ seen) ds)) ∙ sym (or_grouped (same_text_of d x) (occurs same_text_of d seen) (occurs same_text_of d (once_after_of (x ∷ seen) ds)))
        ∙ two
        ∙ or_grouped (same_text_of d x) (occurs same_text_of d seen) (occurs same_text_of d ds) ∙ or_behind (same_text_of d x) (occurs same_text_of d seen) (occurs same_text_of d ds)

pub once-occurs : (d : Text) (ds : List Text) → occurs same_text_of d (once ds) ≡ occurs same_text_of d ds
once-occurs d ds = once_after d [] ds

pub find-own : (own : Text) (ds : List Text) (w : Text) → find (declared_by own ds) w ≡ cond (occurs same_text_of w ds) (Some (own, w)) None
unfolding declared_by
find-own own ds w = find-declared own (once ds) w ∙ ap (λ c. cond c (Some (own, w)) None) (once-occurs w ds)

pub own-lawful : (propose : Proposals) → Proposes propose → (own : Text) (ds : List Text) → Lawful propose (declared_by own ds)
unfolding declared_by
own-lawful propose p own ds = declared-lawful propose p own (once ds)

declared-found : (own : Text) (ds : List Text) (d : Text) → Member d ds → find (declared_by own ds) d ≡ Some (own, d)
declared-found own ds d m = find-own own ds d ∙ ap (λ c. cond c (Some (own, d)) None) (occurs_member d ds m)

pub found_declared : (own : Text) (ds : List Text) (w : Text) (t : Target) → find (declared_by own ds) w ≡ Some t → Member w ds × (t ≡ (own, w))
found_declared own ds w t h =
    let p = told (occurs same_text_of w ds) (sym (find-own own ds w) ∙ h) in
    (member_occurs w ds p.0, sym p.1)

module _ (propose : Proposals) (p : Proposes propose) (own : Text) (ds : List Text) (rs : List Reference) where
  tells : (b : List Binding) → take_all_of propose (declared_by own ds) rs ≡ bound b → Tells propose own ds rs b
  tells b e = record {
    lawful = x.lawful;
    declared = λ d m. x.kept d (own, d) (declared-found own ds d m);
    named = x.each;
    same = λ r s m n. (λ k. same_name r s (name_of b (target_of r)) refl (x.each r m) k, λ k. ap (name_of b) k);
    only = only;
    shaped = shaped;
  }
    where
      x : Passes propose p (declared_by own ds) rs b
      x = passes propose p (declared_by own ds) rs b (own-lawful propose p own ds) e

      same_name : (r s : Reference) (o : Option Text) → name_of b (target_of r) ≡ o → is_some (name_of b (target_of r)) ≡ true → name_of b (target_of r) ≡ name_of b (target_of s) → target_of r ≡ target_of s
      same_name r s None is h k = absurd (false≢true (ap is_some (sym is) ∙ h))
      same_name r s (Some w) is h k =
          let f = x.lawful.bound w (target_of r) is in
          let g = x.lawful.bound w (target_of s) (sym k ∙ is) in
          let z : Some (target_of r) ≡ Some (target_of s) = sym f ∙ g in
          cc

      only : (w : Text) (t : Target) → find b w ≡ Some t → (Member w ds × (t ≡ (own, w))) ⊎ ((r : Reference) × Member r rs × (target_of r ≡ t))
      only w t h = go (x.new w t h)
        where
          go : (find (declared_by own ds) w ≡ Some t) ⊎ ((r : Reference) × Member r rs × (target_of r ≡ t)) → (Member w ds × (t ≡ (own, w))) ⊎ ((r : Reference) × Member r rs × (target_of r ≡ t))
          go (inl k) = inl (found_declared own ds w t k)
          go (inr k) = inr k

      shaped : AllByRecursion (λ d. spelled d ≡ true) ds → AllByRecursion (λ r. spelled (target_of r).1 ≡ true) rs → (w : Text) (t : Target) → find b w ≡ Some t → spelled w ≡ true
      shaped as' ar w t h = go (only w t h)
        where
          go : (Member w ds × (t ≡ (own, w))) ⊎ ((r : Reference) × Member r rs × (target_of r ≡ t)) → spelled w ≡ true
          go (inl k) = all_member (λ d. spelled d ≡ true) ds w as' k.0
          go (inr k) =
              let l = x.lawful.lowest w t h in
              let s : spelled t.1 ≡ true = subst (λ y. spelled y.1 ≡ true) k.2 (all_member (λ r. spelled (target_of r).1 ≡ true) rs k.0 ar k.1) in
              p.shaped t l.number w s l.is

  runs_out : (r : Reference) → take_all_of propose (declared_by own ds) rs ≡ exhausted r → RunsOut propose own ds rs r
  runs_out r e =
      let s = stops propose p (declared_by own ds) rs r e in
      record { before = s.before; after = s.after; between = s.between; names = s.names; taken_before = s.taken_before; none = s.none }

pub names_tell_lem : NamesTell
names_tell_lem propose p own ds rs = (tells propose p own ds rs, runs_out propose p own ds rs)
