-- The bindings that are taken for references in order: their modules do not descend, and no target comes twice.
use Rattle.std.proofs.Common.{◌≡◌, ℕ, ◌+◌, Bool, true, false, cond, not, ◌&&◌, ◌⊎◌, List, [], ◌∷◌, ◌++◌, map, Some, None, filter, Option, Less, sym, refl, ap, ◌∙◌, subst, inl, inr, arith}
use Rattle.std.specs.List.{AllByRecursion}
use mathlib.Core.List.Memᴰ
use mathlib.Core.List.{Memᴰ}
use Rattle.std.specs.Ordering.{ordering_then, is_lt, nat_cmp}
use Rattle.std.specs.Cmp.Lexicographic.{slice_cmp}
use Rattle.std.specs.List.{AllByRecursion as Every}
use Rattle.std.specs.List.Sorted.{IsStrictlySortedBy}
use Rattle.std.proofs.lemmas.List.Elements.{filter-append}
use Rattle.text.proofs.Each.{each-append, each_weaker}
use Rattle.std.proofs.lemmas.Bool.{false≢true}
use Rattle.model.specs.Tree.{Text}
use Rattle.model.specs.Uses.{Use, builtins}
use Rattle.model.specs.Limits.{same_text_of, same_reference}
use Rattle.references.specs.References.{Reference, order, reference_of, references}
use Rattle.references.proofs.Ties.{text_itself, same-is}
use Rattle.references.proofs.Listed.{lists_references}
use Rattle.binding.specs.Binding.{Target, Binding, binding, Proposals, find, name_of, taken, added, bind_to, step, target_of, bound, onward, take_all_of, once, to_own, declared_by}
use Rattle.binding.specs.Laws.{Proposes, Lawful}
use Rattle.binding.proofs.Binds.{none-some, or_else, name-more, declared-lawful, lawful-more, unnamed_where_free}
use Rattle.binding.proofs.Telling.{taken-lowest}
use Rattle.imports.specs.Lines.{imported}
use Rattle.imports.specs.Laws.{due}
use Rattle.imports.proofs.Grouping.{NotAbove, Rising, tally}

-- what is of the own module is not imported
own-not : (own w root : Text) → imported own (binding w (own, root)) ≡ false
own-not own w root = ap (λ c. not c && not (same_text_of own builtins && same_text_of w root)) (text_itself own)

kept_own : (own : Text) (ds : List Text) → filter (imported own) (to_own own ds) ≡ []
kept_own own [] = refl
kept_own own (d ∷ ds) =
    ap (λ c. cond c (binding d (own, d) ∷ filter (imported own) (to_own own ds)) (filter (imported own) (to_own own ds))) (own-not own d d)
    ∙ kept_own own ds

kept_declared : (own : Text) (ds : List Text) → filter (imported own) (declared_by own ds) ≡ []
unfolding declared_by
kept_declared own ds = kept_own own (once ds)

due-own : (own : Text) (ds : List Text) (t : Target) → due own t (name_of (to_own own ds) t) ≡ 0
due-own own [] t = refl
due-own own (d ∷ ds) t = go (same_reference t (own, d)) refl (due-own own ds t)
  where
    go : (c : Bool) → same_reference t (own, d) ≡ c → due own t (name_of (to_own own ds) t) ≡ 0 → due own t (cond c (Some d) (name_of (to_own own ds) t)) ≡ 0
    go true e more = ap (λ s. cond (imported own (binding d s)) 1 0) (same-is t (own, d) e) ∙ ap (λ c. cond c 1 0) (own-not own d d)
    go false e more = more

due-declared : (own : Text) (ds : List Text) (t : Target) → due own t (name_of (declared_by own ds) t) ≡ 0
unfolding declared_by
due-declared own ds t = due-own own (once ds) t

tally_append : (t : Target) (xs ys : List Binding) → tally t (xs ++ ys) ≡ tally t xs + tally t ys
tally_append t [] ys = omega arith
tally_append t (x ∷ xs) ys = let h = tally_append t xs ys in omega arith

rising_more : (b : List Binding) (e : Binding) (c : Bool) → Rising b → AllByRecursion (λ k. NotAbove k.target.0 e.target.0) b → Rising (b ++ cond c (e ∷ []) [])
rising_more [] e true h below = (tt, tt)
rising_more [] e false h below = tt
rising_more (k ∷ b) e c h below = (each-append (λ j. NotAbove k.target.0 j.target.0) b (cond c (e ∷ []) []) h.0 (last c), rising_more b e c h.1 below.1)
  where
    last : (c : Bool) → AllByRecursion (λ j. NotAbove k.target.0 j.target.0) (cond c (e ∷ []) [])
    last true = (below.0, tt)
    last false = tt

all_more : (P : Binding → Type 0) (b : List Binding) (e : Binding) (c : Bool) → AllByRecursion P b → P e → AllByRecursion P (b ++ cond c (e ∷ []) [])
all_more P b e c h here = each-append P b (cond c (e ∷ []) []) h (last c)
  where
    last : (c : Bool) → AllByRecursion P (cond c (e ∷ []) [])
    last true = (here, tt)
    last false = tt

-- a reference below another is of no higher module
order-modules : (r s : Reference) → order r s ≡ Less → NotAbove r.0 s.0
order-modules r s less above = false≢true (ap is_lt (sym (ap (λ o. ordering_then o (slice_cmp nat_cmp r.1 s.1)) above) ∙ less))

every-modules : (r : Reference) (rs : List Reference) → Every (λ s. order r s ≡ Less) rs → AllByRecursion (λ s. NotAbove r.0 s.0) rs
every-modules r [] h = tt
every-modules r (s ∷ rs) h = (order-modules r s h.0, every-modules r rs h.1)

abbrev binding_for : Text → Reference → Binding
binding_for w r = binding w (target_of r)

module _ (propose : Proposals) (p : Proposes propose) (own : Text) (P : Text → Type 0) where
  -- what is bound, where the references rs are still to come
  pub record Kept (b : List Binding) (rs : List Reference) : Type 0 where
    pub lawful : Lawful propose b
    pub counts : (t : Target) → tally t (filter (imported own) b) ≡ due own t (name_of b t)
    pub rises : Rising (filter (imported own) b)
    pub below : AllByRecursion (λ e. AllByRecursion (λ r. NotAbove e.target.0 r.0) rs) (filter (imported own) b)
    pub each : AllByRecursion (λ e. P e.target.0) (filter (imported own) b)

  lawful-declared : (ds : List Text) → Lawful propose (declared_by own ds)
  unfolding declared_by
  lawful-declared ds = declared-lawful propose p own (once ds)

  kept_none : (ds : List Text) (rs : List Reference) → Kept (declared_by own ds) rs
  kept_none ds rs =
      let none = sym (kept_declared own ds) in
      record {
        lawful = lawful-declared ds;
        counts = λ t. ap (tally t) (kept_declared own ds) ∙ sym (due-declared own ds t);
        rises = subst Rising none tt;
        below = subst (AllByRecursion (λ e. AllByRecursion (λ r. NotAbove e.target.0 r.0) rs)) none tt;
        each = subst (AllByRecursion (λ e. P e.target.0)) none tt;
      }

  -- a reference that has its name already
  kept_same : (b : List Binding) (r : Reference) (rs : List Reference) → Kept b (r ∷ rs) → Kept b rs
  kept_same b r rs h = record {
    lawful = h.lawful;
    counts = h.counts;
    rises = h.rises;
    below = each_weaker (λ e. AllByRecursion (λ s. NotAbove e.target.0 s.0) (r ∷ rs)) (λ e. AllByRecursion (λ s. NotAbove e.target.0 s.0) rs) (λ e k. k.1) (filter (imported own) b) h.below;
    each = h.each;
  }

  -- one that gets a name
  kept_more : (b : List Binding) (r : Reference) (rs : List Reference) (w : Text) → IsStrictlySortedBy order (r ∷ rs) → P r.0 → name_of b (target_of r) ≡ None
      → Lawful propose (b ++ binding_for w r ∷ []) → Kept b (r ∷ rs) → Kept (b ++ binding_for w r ∷ []) rs
  unfolding IsStrictlySortedBy
  kept_more b r rs w up here free law h =
      let same = kept_same b r rs h in
      record {
        lawful = law;
        counts = λ t. ap (tally t) grown ∙ tally_append t (filter (imported own) b) (cond (imported own (binding_for w r)) (binding_for w r ∷ []) [])
            ∙ counted t (same_reference t (target_of r)) refl (name_of b t) refl (h.counts t) ∙ ap (due own t) (sym (name-more b (binding_for w r) t));
        rises = subst Rising (sym grown) (rising_more (filter (imported own) b) (binding_for w r) (imported own (binding_for w r)) h.rises
            (each_weaker (λ k. AllByRecursion (λ s. NotAbove k.target.0 s.0) (r ∷ rs)) (λ k. NotAbove k.target.0 r.0) (λ k a. a.0) (filter (imported own) b) h.below));
        below = subst (AllByRecursion (λ k. AllByRecursion (λ s. NotAbove k.target.0 s.0) rs)) (sym grown)
            (all_more (λ k. AllByRecursion (λ s. NotAbove k.target.0 s.0) rs) (filter (imported own) b) (binding_for w r) (imported own (binding_for w r)) same.below (every-modules r rs up.0));
        each = subst (AllByRecursion (λ k. P k.target.0)) (sym grown) (all_more (λ k. P k.target.0) (filter (imported own) b) (binding_for w r) (imported own (binding_for w r)) h.each here);
      }
    where
      grown : filter (imported own) (b ++ binding_for w r ∷ []) ≡ filter (imported own) b ++ cond (imported own (binding_for w r)) (binding_for w r ∷ []) []
      grown = filter-append (imported own) b (binding_for w r ∷ [])

      new : (c : Bool) (t : Target) → same_reference t (target_of r) ≡ true → tally t (cond c (binding_for w r ∷ []) []) ≡ cond c 1 0
      new true t s = ap (λ x. cond x 1 0 + 0) s
      new false t s = refl

      old : (c : Bool) (t : Target) → same_reference t (target_of r) ≡ false → tally t (cond c (binding_for w r ∷ []) []) ≡ 0
      old true t s = ap (λ x. cond x 1 0 + 0) s
      old false t s = refl

      first : (t : Target) → t ≡ target_of r → same_reference t (target_of r) ≡ true → name_of b t ≡ None → tally t (filter (imported own) b) ≡ due own t (name_of b t)
          → tally t (filter (imported own) b) + tally t (cond (imported own (binding_for w r)) (binding_for w r ∷ []) []) ≡ due own t (or_else (name_of b t) (cond (same_reference t (target_of r)) (Some w) None))
      first t is s nothing k =
          let none = k ∙ ap (due own t) nothing in
          let one = new (imported own (binding_for w r)) t s in
          let sum : tally t (filter (imported own) b) + tally t (cond (imported own (binding_for w r)) (binding_for w r ∷ []) []) ≡ cond (imported own (binding_for w r)) 1 0 = omega arith in
          sum ∙ ap (λ x. cond (imported own (binding w x)) 1 0) (sym is)
          ∙ sym (λ i. due own t (or_else (nothing i) (cond (s i) (Some w) None)))

      counted : (t : Target) (s : Bool) → same_reference t (target_of r) ≡ s → (o : Option Text) → name_of b t ≡ o → tally t (filter (imported own) b) ≡ due own t (name_of b t)
          → tally t (filter (imported own) b) + tally t (cond (imported own (binding_for w r)) (binding_for w r ∷ []) []) ≡ due own t (or_else (name_of b t) (cond (same_reference t (target_of r)) (Some w) None))
      counted t true s o is k = first t (same-is t (target_of r) s) s (ap (name_of b) (same-is t (target_of r) s) ∙ free) k
      counted t false s None is k =
          let z = old (imported own (binding_for w r)) t s in
          let sum : tally t (filter (imported own) b) + tally t (cond (imported own (binding_for w r)) (binding_for w r ∷ []) []) ≡ due own t (name_of b t) = omega arith in
          sum ∙ ap (due own t) is ∙ sym (λ i. due own t (or_else (is i) (cond (s i) (Some w) None)))
      counted t false s (Some v) is k =
          let z = old (imported own (binding_for w r)) t s in
          let sum : tally t (filter (imported own) b) + tally t (cond (imported own (binding_for w r)) (binding_for w r ∷ []) []) ≡ due own t (name_of b t) = omega arith in
          sum ∙ ap (due own t) is ∙ sym (λ i. due own t (or_else (is i) (cond (s i) (Some w) None)))

  kept_step : (b : List Binding) (r : Reference) (rs : List Reference) (c : List Binding) → IsStrictlySortedBy order (r ∷ rs) → P r.0 → Kept b (r ∷ rs)
      → step propose b (target_of r) ≡ Some c → Kept c rs
  kept_step b r rs c up here h e = go (taken propose b (target_of r)) refl e
    where
      bind : (w : Text) → taken propose b (target_of r) ≡ Some w → (o : Option Target) → find b w ≡ o → added o b (binding w (target_of r)) ≡ c → Kept c rs
      bind w is None free k =
          let l = taken-lowest propose p b (target_of r) w is in
          let u = unnamed_where_free propose b (target_of r) w h.lawful l free in
          subst (λ x. Kept x rs) k (kept_more b r rs w up here u (lawful-more propose b w (target_of r) h.lawful l free u) h)
      bind w is (Some s) held k = subst (λ x. Kept x rs) k (kept_same b r rs h)

      go : (o : Option Text) → taken propose b (target_of r) ≡ o → bind_to b (target_of r) o ≡ Some c → Kept c rs
      go None is k = none-some None refl k
      go (Some w) is k = bind w is (find b w) refl (cc)

  kept_through : (b : List Binding) (rs : List Reference) (c : List Binding) → IsStrictlySortedBy order rs → AllByRecursion (λ r. P r.0) rs → Kept b rs → take_all_of propose b rs ≡ bound c → Kept c []
  unfolding IsStrictlySortedBy
  kept_through b [] c up good h e = let same : b ≡ c = cc in subst (λ x. Kept x []) same h
  kept_through b (r ∷ rs) c up good h e = go (step propose b (target_of r)) refl (λ d k. kept_through d rs c up.1 good.1 k) e
    where
      go : (o : Option (List Binding)) → step propose b (target_of r) ≡ o → ((d : List Binding) → Kept d rs → take_all_of propose d rs ≡ bound c → Kept c [])
          → onward o r (λ d. take_all_of propose d rs) ≡ bound c → Kept c []
      go None is more k = let z : ◌≡◌ {A = ℕ} 0 1 = cc in absurd (omega arith)
      go (Some d) is more k = more d (kept_step b r rs d up good.0 h is) k

  pub kept_all : (ds : List Text) (rs : List Reference) (b : List Binding) → IsStrictlySortedBy order rs → AllByRecursion (λ r. P r.0) rs → take_all_of propose (declared_by own ds) rs ≡ bound b → Kept b []
  kept_all ds rs b up good e = kept_through (declared_by own ds) rs b up good (kept_none ds rs) e

-- ---- what holds of the modules of the uses holds of those of the references

module _ (P : Text → Type 0) where
  of_member : (us : List Use) → AllByRecursion (λ u. P u.from) us → (r : Reference) → Memᴰ r (map reference_of us) → P r.0
  of_member [] h r m = elim m [ ]
  of_member (u ∷ us) h r m = go (of_member us h.1 r) (Memᴰ.cases_cons m)
    where
      go : (Memᴰ r (map reference_of us) → P r.0) → (r ≡ reference_of u) ⊎ Memᴰ r (map reference_of us) → P r.0
      go later (inl e) = subst (λ (s : Reference). P s.0) (sym e) h.0
      go later (inr there) = later there

  of_members : (rs : List Reference) → ((r : Reference) → Memᴰ r rs → P r.0) → AllByRecursion (λ r. P r.0) rs
  of_members [] f = tt
  of_members (r ∷ rs) f = (f r (Memᴰ.head refl), of_members rs (λ s m. f s (Memᴰ.tail m)))

  pub of_references : (us : List Use) → AllByRecursion (λ u. P u.from) us → AllByRecursion (λ r. P r.0) (references us)
  of_references us h = of_members (references us) (λ r m. of_member us h r ((lists_references us).within r m))
