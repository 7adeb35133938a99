-- How the code comes to the step that a target asks for.
use Rattle.std.proofs.Common.{◌≡◌, ℕ, zero, suc, Bool, true, false, cond, not, ltb, List, [], ◌∷◌, ◌++◌, length, is_some, Some, None, vec_items, Option, sym, refl, ap, ◌∙◌, subst, arith}
use lib.ListN.{length-map}
use Rattle.std.proofs.lemmas.Bool.{ltb-true, ltb-false, false≢true}
use Rattle.model.specs.Tree.{Text}
use Rattle.model.specs.Limits.{same_reference}
use Rattle.naming.specs.Next.{next_name, proposal}
use Rattle.references.proofs.Ties.{same-is}
use Rattle.binding.specs.declared.name.Name.{Name}
use Rattle.binding.specs.declared.binder.Binder.{Binder}
use Rattle.binding.specs.Binding.{Target, Binding, binding, by_number, find, name_of, fits, allows, chosen, seek, taken, added, bind_to, step}
use Rattle.binding.specs.Laws.{Passed, Lowest, Exhausted, Lawful}
use Rattle.binding.specs.Held.{binding_of}
use Rattle.binding.specs.Sound.{pool_of, bindings_in, Shows, Sound, Enters, Bound, free_from}
use Rattle.binding.proofs.Binds.{none-some, one-lowest, lawful-more, name_new}
use Rattle.binding.proofs.Telling.{proposes-by_number, taken-lowest, taken_none}

module _ (b : List Binding) (t : Target) (g : Lawful by_number b) where
  -- proposals do not come to an end before the name that a target has
  never_exhausted : (w : Text) → Lowest by_number b t w → Exhausted by_number b t → ⊥
  never_exhausted w l x = go (ltb l.number x.number) refl (ltb x.number l.number) refl
    where
      go : (a : Bool) → ltb l.number x.number ≡ a → (c : Bool) → ltb x.number l.number ≡ c → ⊥
      go true e c f =
          let p : fits b t w ≡ false = subst (Passed b t) l.is (x.lower l.number (ltb-true l.number x.number e)) in
          false≢true (sym p ∙ l.fitting)
      go false e true f = subst (Passed b t) x.none (l.lower x.number (ltb-true x.number l.number f))
      go false e false f =
          let p = ltb-false l.number x.number e in
          let q = ltb-false x.number l.number f in
          let n : l.number ≡ x.number = omega arith in
          none-some (by_number t l.number) (ap (by_number t) n ∙ x.none) l.is

  pub step-known : (w : Text) → name_of b t ≡ Some w → step by_number b t ≡ Some b
  step-known w h = go (taken by_number b t) refl
    where
      f : find b w ≡ Some t
      f = g.bound w t h

      go : (o : Option Text) → taken by_number b t ≡ o → bind_to b t o ≡ Some b
      go None is = absurd (never_exhausted w (g.lowest w t f) (taken_none by_number proposes-by_number b t is))
      go (Some v) is =
          let e : v ≡ w = one-lowest by_number b t v w (taken-lowest by_number proposes-by_number b t v is) (g.lowest w t f) in
          ap (λ x. Some (added (find b x) b (binding x t))) e ∙ ap (λ o. Some (added o b (binding w t))) f

  module _ (unnamed : name_of b t ≡ None) where
    -- for a target without a name, only a name that is free fits
    fits-free : (w : Text) → fits b t w ≡ not (is_some (find b w))
    fits-free w = go (find b w) refl
      where
        apart : (s : Target) → find b w ≡ Some s → (c : Bool) → same_reference t s ≡ c → c ≡ false
        apart s is true e = none-some (name_of b t) unnamed (g.named w t (is ∙ ap Some (sym (same-is t s e))))
        apart s is false e = refl

        go : (o : Option Target) → find b w ≡ o → allows o t ≡ not (is_some o)
        go None is = refl
        go (Some s) is = apart s is (same_reference t s) refl

    chosen-same : (o other other' : Option Text) → other ≡ other' → chosen o (fits b t) other ≡ chosen o (λ w. not (is_some (find b w))) other'
    chosen-same None other other' e = refl
    chosen-same (Some w) other other' e = λ i. cond (fits-free w i) (Some w) (e i)

    seek-free : (k n : ℕ) → seek by_number k n b t ≡ free_from k b (proposal t.1 n)
    seek-free zero n = refl
    seek-free (suc k) n = chosen-same (proposal t.1 n) (seek by_number k (suc n) b t) (free_from k b (proposal t.1 (suc n))) (seek-free k (suc n))

    taken_free : taken by_number b t ≡ free_from (suc (length b)) b (Some t.1)
    unfolding taken
    taken_free = seek-free (suc (length b)) 0

    pub taken-root : false ≡ is_some (find b t.1) → taken by_number b t ≡ Some t.1
    taken-root h = taken_free ∙ ap (λ c. cond (not c) (Some t.1) (free_from (length b) b (next_name t.1))) (sym h)

    pub taken_alias : true ≡ is_some (find b t.1) → taken by_number b t ≡ free_from (length b) b (next_name t.1)
    taken_alias h = taken_free ∙ ap (λ c. cond (not c) (Some t.1) (free_from (length b) b (next_name t.1))) (sym h)

    free-taken : (w : Text) → taken by_number b t ≡ Some w → find b w ≡ None
    free-taken w is = go (find b w) refl (sym (fits-free w) ∙ (taken-lowest by_number proposes-by_number b t w is).fitting)
      where
        go : (o : Option Target) → find b w ≡ o → not (is_some o) ≡ true → o ≡ None
        go None e h = refl
        go (Some s) e h = absurd (false≢true h)

    pub step-new : (w : Text) → taken by_number b t ≡ Some w → step by_number b t ≡ Some (b ++ binding w t ∷ [])
    step-new w is = ap (bind_to b t) is ∙ ap (λ o. Some (added o b (binding w t))) (free-taken w is)

    pub lawful-new : (w : Text) → taken by_number b t ≡ Some w → Lawful by_number (b ++ binding w t ∷ [])
    lawful-new w is = lawful-more by_number b w t g (taken-lowest by_number proposes-by_number b t w is) (free-taken w is) unnamed

  pub step-none : taken by_number b t ≡ None → step by_number b t ≡ None
  step-none is = ap (bind_to b t) is

-- ---- in the binder

pub some_shown : {C : Type 0} (pool : List ℕ) (n : Name) (o : Option Text) → Shows pool (Some n) o → ((w : Text) → o ≡ Some w → C) → C
some_shown pool n None h use-it = absurd h
some_shown pool n (Some w) h use-it = use-it w refl

pub none_shown : (pool : List ℕ) (o : Option Text) → Shows pool None o → o ≡ None
none_shown pool None h = refl
none_shown pool (Some w) h = absurd h

pub bound-known : (s : Binder) (t : Target) (n : Name) → Sound s → Shows (pool_of s) (Some n) (name_of (bindings_in s) t) → Bound s t n s
bound-known s t n x h = record {
  steps = some_shown (pool_of s) n (name_of (bindings_in s) t) h (λ w e. step-known (bindings_in s) t x.lawful w e);
  sound = x;
  shows = h;
  grows = λ k l. (refl, l);
}

pub bound_entered : (s s' : Binder) (t : Target) (n : Name) (w : Text) → Sound s → name_of (bindings_in s) t ≡ None → taken by_number (bindings_in s) t ≡ Some w → Enters s w t n s' → Bound s t n s'
bound_entered s s' t n w x none is e =
    record {
      steps = step-new (bindings_in s) t x.lawful none w is ∙ ap Some (sym e.bindings);
      sound = record { lawful = subst (Lawful by_number) (sym e.bindings) (lawful-new (bindings_in s) t x.lawful none w is); indexed = e.indexed };
      shows = subst (λ o. Shows (pool_of s') (Some n) o) (sym (ap (λ b. name_of b t) e.bindings ∙ name_new (bindings_in s) w t none)) e.shows;
      grows = e.grows;
    }

pub as_many : (s : Binder) → length (bindings_in s) ≡ length (vec_items s.entries)
as_many s = length-map (vec_items s.entries) (binding_of (pool_of s))
