-- All references taken in turn, and the map from references to names beside the bindings.
use Rattle.std.proofs.Common.{◌≡◌, ℕ, ◌+◌, ◌<◌, ◌≤◌, Bool, true, false, cond, ◌||◌, List, [], ◌∷◌, ◌++◌, length, get_or, take, drop, is_some, Some, None, Option, sym, refl, ap, ◌∙◌, subst, take_all}
use Rattle.std.specs.BTreeMap.{BTreeMap}
use Rattle.std.specs.Option.{option_map}
use Rattle.std.specs.BTreeMap as tree
use Rattle.std.specs.Cmp.{eq_by_cmp_equiv}
use Rattle.std.proofs.lemmas.List.{take_more, drop_more, drop_all}
use Rattle.std.proofs.lemmas.Bool.{false≢true}
use Rattle.model.specs.Tree.{Text}
use Rattle.model.specs.Limits.{same_reference, occurs}
use Rattle.model.specs.declared.uses.Reference.{Reference as ReferenceOf}
use Rattle.references.specs.References.{Reference, pair_of}
use Rattle.references.specs.Kept.{reference_cmp, by_texts}
use Rattle.references.proofs.Kept.{key_ties}
use Rattle.references.proofs.Ties.{same-is}
use Rattle.binding.specs.declared.name.Name.{Name}
use Rattle.binding.specs.declared.binder.Binder.{Binder}
use Rattle.binding.specs.Binding.{Binding, Target, by_number, name_of, step, target_of, bound, exhausted, onward, take_all_of}
use Rattle.binding.specs.Laws.{Lawful}
use Rattle.binding.specs.Held.{text_of}
use Rattle.binding.specs.Named.{name_among}
use Rattle.binding.specs.Sound.{pool_of, bindings_in, Shows, Sound, Bound, Binds}
use Rattle.binding.proofs.Entering.{shows-grown}
use Rattle.binding.proofs.Telling.{proposes-by_number, went}

abbrev pub Renaming : Type 0
Renaming = BTreeMap ReferenceOf Name

-- how far the loop is: what is left to take gives what all of it gives, and those taken have their names
pub record Folds (start : List Binding) (rs : List Reference) (i : ℕ) (s : Binder) (m : Renaming) : Type 0 where
  pub sound : Sound s
  pub ordered : tree.IsOrdered reference_cmp m
  pub rest : take_all_of by_number (bindings_in s) (drop i rs) ≡ take_all_of by_number start rs
  pub named : (q : Reference) → occurs same_reference q (take i rs) ≡ true → is_some (name_of (bindings_in s) (target_of q)) ≡ true
  pub renamed : (q : ReferenceOf) → Shows (pool_of s) (tree.get reference_cmp m q) (name_among (take i rs) (bindings_in s) (pair_of q))

pub folds_none : (start : List Binding) (rs : List Reference) (s : Binder) (m : Renaming) → Sound s → tree.IsOrdered reference_cmp m → ((q : ReferenceOf) → tree.get reference_cmp m q ≡ None) → bindings_in s ≡ start → Folds start rs 0 s m
folds_none start rs s m x o none e = record {
  sound = x;
  ordered = o;
  rest = ap (λ b. take_all_of by_number b rs) e;
  named = λ q h. absurd (false≢true h);
  renamed = λ q. subst (λ n. Shows (pool_of s) n None) (sym (none q)) tt;
}

-- ---- one reference more

or_last : (e : Reference → Reference → Bool) (q r : Reference) (rs : List Reference) → occurs e q (rs ++ r ∷ []) ≡ (occurs e q rs || e q r)
or_last e q r [] = go (e q r)
  where
    go : (c : Bool) → (c || false) ≡ c
    go true = refl
    go false = refl
or_last e q r (x ∷ rs) = ap (λ c. e q x || c) (or_last e q r rs) ∙ go (e q x)
  where
    go : (c : Bool) → (c || (occurs e q rs || e q r)) ≡ ((c || occurs e q rs) || e q r)
    go true = refl
    go false = refl

-- a name that a target has, it keeps
kept_name : (b c : List Binding) (t u : Target) (w : Text) → Lawful by_number b → step by_number b t ≡ Some c → name_of b u ≡ Some w → name_of c u ≡ Some w
kept_name b c t u w g e h =
    let x = went by_number proposes-by_number b t c g e in
    x.lawful.named w u (x.kept w u (g.bound w u h))

some_kept : (b c : List Binding) (t u : Target) → Lawful by_number b → step by_number b t ≡ Some c → is_some (name_of b u) ≡ true → is_some (name_of c u) ≡ true
some_kept b c t u g e h = go (name_of b u) refl h
  where
    go : (o : Option Text) → name_of b u ≡ o → is_some o ≡ true → is_some (name_of c u) ≡ true
    go None is k = absurd (false≢true k)
    go (Some w) is k = ap is_some (kept_name b c t u w g e is)

is_some_shown : (pool : List ℕ) (n : Name) (o : Option Text) → Shows pool (Some n) o → is_some o ≡ true
is_some_shown pool n None h = absurd h
is_some_shown pool n (Some w) h = refl

module _ (start : List Binding) (rs : List Reference) (i : ℕ) (d : Reference) (s s' : Binder) (m m' : Renaming) (r : ReferenceOf) (n : Name)
    (lt : i < length rs) (is : get_or rs i d ≡ pair_of r) (x : Folds start rs i s m) (y : Bound s (target_of (pair_of r)) n s') (put : tree.Updates reference_cmp m m' r (Some n)) (after : tree.IsOrdered reference_cmp m') where
  taken_more : take (i + 1) rs ≡ take i rs ++ pair_of r ∷ []
  taken_more = take_more rs i d lt ∙ ap (λ q. take i rs ++ q ∷ []) is

  more-rest : take_all_of by_number (bindings_in s') (drop (i + 1) rs) ≡ take_all_of by_number start rs
  more-rest =
      sym (ap (λ l. take_all_of by_number (bindings_in s) l) (drop_more rs i d lt) ∙ ap (λ q. take_all_of by_number (bindings_in s) (q ∷ drop (i + 1) rs)) is
      ∙ ap (λ o. onward o (pair_of r) (λ c. take_all_of by_number c (drop (i + 1) rs))) y.steps)
      ∙ x.rest

  more-named : (q : Reference) → occurs same_reference q (take (i + 1) rs) ≡ true → is_some (name_of (bindings_in s') (target_of q)) ≡ true
  more-named q h = go (same_reference q (pair_of r)) refl (occurs same_reference q (take i rs)) refl (sym (or_last same_reference q (pair_of r) (take i rs)) ∙ ap (occurs same_reference q) (sym taken_more) ∙ h)
    where
      go : (c : Bool) → same_reference q (pair_of r) ≡ c → (a : Bool) → occurs same_reference q (take i rs) ≡ a → (a || c) ≡ true → is_some (name_of (bindings_in s') (target_of q)) ≡ true
      go true e a f k = ap (λ u. is_some (name_of (bindings_in s') (target_of u))) (same-is q (pair_of r) e) ∙ is_some_shown (pool_of s') n _ y.shows
      go false e true f k = some_kept (bindings_in s) (bindings_in s') (target_of (pair_of r)) (target_of q) x.sound.lawful y.steps (x.named q f)
      go false e false f k = absurd (false≢true k)

  more_renamed : (q : ReferenceOf) → Shows (pool_of s') (tree.get reference_cmp m' q) (name_among (take (i + 1) rs) (bindings_in s') (pair_of q))
  more_renamed q =
      subst (λ l. Shows (pool_of s') (tree.get reference_cmp m' q) (name_among l (bindings_in s') (pair_of q))) (sym taken_more)
      (subst (λ c. Shows (pool_of s') (tree.get reference_cmp m' q) (cond c (name_of (bindings_in s') (target_of (pair_of q))) None)) (sym (or_last same_reference (pair_of q) (pair_of r) (take i rs)))
      (subst (λ o. Shows (pool_of s') o (cond (occurs same_reference (pair_of q) (take i rs) || same_reference (pair_of q) (pair_of r)) (name_of (bindings_in s') (target_of (pair_of q))) None)) (sym (put.0 q ∙ ap (λ c. cond c (Some n) (tree.get reference_cmp m q)) ((eq_by_cmp_equiv by_texts).symm r q ∙ key_ties q r)))
      (go (same_reference (pair_of q) (pair_of r)) refl (occurs same_reference (pair_of q) (take i rs)) refl (x.renamed q))))
    where
      or_true : (a : Bool) → (a || true) ≡ true
      or_true true = refl
      or_true false = refl

      or_same : (a : Bool) → (a || false) ≡ a
      or_same true = refl
      or_same false = refl

      grown : (o : Option Name) (w : Option Text) → Shows (pool_of s) o w → Shows (pool_of s') o w
      grown = shows-grown (pool_of s) (pool_of s') y.grows

      old : (a : Bool) → occurs same_reference (pair_of q) (take i rs) ≡ a → Shows (pool_of s) (tree.get reference_cmp m q) (cond a (name_of (bindings_in s) (target_of (pair_of q))) None)
          → Shows (pool_of s') (tree.get reference_cmp m q) (cond a (name_of (bindings_in s') (target_of (pair_of q))) None)
      old true f h = by_name (name_of (bindings_in s) (target_of (pair_of q))) refl (x.named (pair_of q) f) h
        where
          by_name : (o : Option Text) → name_of (bindings_in s) (target_of (pair_of q)) ≡ o → is_some (name_of (bindings_in s) (target_of (pair_of q))) ≡ true
              → Shows (pool_of s) (tree.get reference_cmp m q) (name_of (bindings_in s) (target_of (pair_of q))) → Shows (pool_of s') (tree.get reference_cmp m q) (name_of (bindings_in s') (target_of (pair_of q)))
          by_name None e some k = absurd (false≢true (ap is_some (sym e) ∙ some))
          by_name (Some w) e some k =
              subst (λ v. Shows (pool_of s') (tree.get reference_cmp m q) v) (e ∙ sym (kept_name (bindings_in s) (bindings_in s') (target_of (pair_of r)) (target_of (pair_of q)) w x.sound.lawful y.steps e))
              (grown (tree.get reference_cmp m q) (name_of (bindings_in s) (target_of (pair_of q))) k)
      old false f h = grown (tree.get reference_cmp m q) None h

      go : (c : Bool) → same_reference (pair_of q) (pair_of r) ≡ c → (a : Bool) → occurs same_reference (pair_of q) (take i rs) ≡ a
          → Shows (pool_of s) (tree.get reference_cmp m q) (cond (occurs same_reference (pair_of q) (take i rs)) (name_of (bindings_in s) (target_of (pair_of q))) None)
          → Shows (pool_of s') (cond c (Some n) (tree.get reference_cmp m q)) (cond (occurs same_reference (pair_of q) (take i rs) || c) (name_of (bindings_in s') (target_of (pair_of q))) None)
      go true e a f h =
          subst (λ c. Shows (pool_of s') (Some n) (cond c (name_of (bindings_in s') (target_of (pair_of q))) None)) (sym (or_true (occurs same_reference (pair_of q) (take i rs))))
          (subst (λ u. Shows (pool_of s') (Some n) (name_of (bindings_in s') (target_of u))) (sym (same-is (pair_of q) (pair_of r) e)) y.shows)
      go false e a f h =
          subst (λ c. Shows (pool_of s') (tree.get reference_cmp m q) (cond c (name_of (bindings_in s') (target_of (pair_of q))) None)) (sym (or_same (occurs same_reference (pair_of q) (take i rs))))
          (subst (λ c. Shows (pool_of s') (tree.get reference_cmp m q) (cond c (name_of (bindings_in s') (target_of (pair_of q))) None)) (sym f)
          (old a f (subst (λ c. Shows (pool_of s) (tree.get reference_cmp m q) (cond c (name_of (bindings_in s) (target_of (pair_of q))) None)) f h)))

  pub folds_more : Folds start rs (i + 1) s' m'
  folds_more = record {
    sound = y.sound;
    ordered = after;
    rest = more-rest;
    named = more-named;
    renamed = more_renamed;
  }

-- no name is left for a reference
pub folds_stop : (start : List Binding) (rs : List Reference) (i : ℕ) (d : Reference) (s : Binder) (m : Renaming) (r : ReferenceOf) → i < length rs → get_or rs i d ≡ pair_of r → Folds start rs i s m
    → step by_number (bindings_in s) (target_of (pair_of r)) ≡ None → take_all_of by_number start rs ≡ exhausted (pair_of r)
folds_stop start rs i d s m r lt is x none =
    sym x.rest ∙ ap (take_all_of by_number (bindings_in s)) (drop_more rs i d lt) ∙ ap (λ q. take_all_of by_number (bindings_in s) (q ∷ drop (i + 1) rs)) is
    ∙ ap (λ o. onward o (pair_of r) (λ c. take_all_of by_number c (drop (i + 1) rs))) none

-- all are taken
pub folds_bound : (start : List Binding) (rs : List Reference) (i : ℕ) (s : Binder) (m : Renaming) → length rs ≤ i → Folds start rs i s m → take_all_of by_number start rs ≡ bound (bindings_in s)
folds_bound start rs i s m le x = sym x.rest ∙ ap (take_all_of by_number (bindings_in s)) (drop_all i rs le)

shown_mapped : (pool : List ℕ) (o : Option Name) (w : Option Text) → Shows pool o w → option_map (text_of pool) o ≡ w
shown_mapped pool None None h = refl
shown_mapped pool None (Some w) h = absurd h
shown_mapped pool (Some n) None h = absurd h
shown_mapped pool (Some n) (Some w) h = ap Some h.0

pub folds_renames : (start : List Binding) (rs : List Reference) (i : ℕ) (s : Binder) (m : Renaming) → length rs ≤ i → Folds start rs i s m
    → (q : ReferenceOf) → option_map (text_of (pool_of s)) (tree.get reference_cmp m q) ≡ name_among rs (bindings_in s) (pair_of q)
folds_renames start rs i s m le x q = shown_mapped (pool_of s) (tree.get reference_cmp m q) _ (x.renamed q) ∙ ap (λ l. name_among l (bindings_in s) (pair_of q)) (take_all i rs le)

-- ---- what binding a target answered

pub binds_some : (s s' : Binder) (t u : Target) (o : Option Name) (n : Name) → t ≡ u → o ≡ Some n → Binds s t o s' → Bound s u n s'
binds_some s s' t u o n e is h = subst (λ v. Bound s v n s') e (subst (λ x. Binds s t x s') is h)

pub binds_none : (s s' : Binder) (t u : Target) (o : Option Name) → t ≡ u → o ≡ None → Binds s t o s' → step by_number (bindings_in s) u ≡ None
binds_none s s' t u o e is h = subst (λ v. step by_number (bindings_in s) v ≡ None) e (subst (λ x. Binds s t x s') is h)
