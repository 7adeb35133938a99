-- The declared names, bound one by one.
use Rattle.std.proofs.Common.{◌≡◌, ℕ, ◌+◌, ◌<◌, ◌≤◌, Bool, true, false, cond, ◌||◌, List, [], ◌∷◌, ◌++◌, map, length, get_or, take, is_some, Some, None, Option, sym, refl, ap, ◌∙◌, subst, append-nil, take_all}
use Rattle.std.proofs.lemmas.List.{map-append, take_more}
use Rattle.std.proofs.lemmas.Bool.{false≢true}
use Rattle.model.specs.Tree.{Text}
use Rattle.model.specs.Limits.{same_text_of, occurs}
use Rattle.model.specs.Steps.{declared_of}
use Rattle.model.specs.declared.uses.Declared.{Declared as DeclaredOf}
use Rattle.references.specs.References.{name_of as declared_name}
use Rattle.references.proofs.Ties.{text-is}
use Rattle.binding.specs.declared.binder.Binder.{Binder}
use Rattle.binding.specs.Binding.{Binding, binding, Target, by_number, find, name_of, once_after_of, once, to_own, declared_by}
use Rattle.binding.specs.Laws.{Lawful}
use Rattle.binding.specs.Sound.{bindings_in, Indexed, Sound, OnlyDeclared, DeclaresOne, Declares}
use Rattle.binding.proofs.Ors.{or_behind, or_grouped}
use Rattle.binding.proofs.Binds.{none-some}
use Rattle.binding.proofs.Telling.{proposes-by_number, find-own, own-lawful, found_declared}

-- ---- without repeats, one more

abbrev lone : Bool → Text → List Text
lone old d = cond old [] (d ∷ [])

or_false : (c : Bool) → (c || false) ≡ c
or_false true = refl
or_false false = refl

once_push : (seen xs : List Text) (d : Text) → once_after_of seen (xs ++ d ∷ []) ≡ once_after_of seen xs ++ lone (occurs same_text_of d seen || occurs same_text_of d xs) d
once_push seen [] d = ap (λ c. lone c d) (sym (or_false (occurs same_text_of d seen)))
once_push seen (x ∷ xs) d = go (occurs same_text_of x seen) refl (once_push seen xs d) (once_push (x ∷ seen) xs d)
  where
    older : (c : Bool) → same_text_of d x ≡ c → occurs same_text_of x seen ≡ true → (occurs same_text_of d seen || occurs same_text_of d xs) ≡ (occurs same_text_of d seen || (c || occurs same_text_of d xs))
    older true e h = ap (λ o. o || occurs same_text_of d xs) f ∙ sym (ap (λ o. o || (true || occurs same_text_of d xs)) f)
      where
        f : occurs same_text_of d seen ≡ true
        f = subst (λ y. occurs same_text_of y seen ≡ true) (sym (text-is d x e)) h
    older false e h = refl

    go : (c : Bool) → occurs same_text_of x seen ≡ c
        → once_after_of seen (xs ++ d ∷ []) ≡ once_after_of seen xs ++ lone (occurs same_text_of d seen || occurs same_text_of d xs) d
        → once_after_of (x ∷ seen) (xs ++ d ∷ []) ≡ once_after_of (x ∷ seen) xs ++ lone (occurs same_text_of d (x ∷ seen) || occurs same_text_of d xs) d
        → cond c (once_after_of seen (xs ++ d ∷ [])) (x ∷ once_after_of (x ∷ seen) (xs ++ d ∷ []))
        ≡ cond c (once_after_of seen xs) (x ∷ once_after_of (x ∷ seen) xs) ++ lone (occurs same_text_of d seen || occurs same_text_of d (x ∷ xs)) d
    go true h one two = one ∙ ap (λ o. once_after_of seen xs ++ lone o d) (older (same_text_of d x) refl h)
    go false h one two =
        ap (λ l. x ∷ l)
        (two ∙ ap (λ o. once_after_of (x ∷ seen) xs ++ lone o d)
        (or_grouped (same_text_of d x) (occurs same_text_of d seen) (occurs same_text_of d xs) ∙ or_behind (same_text_of d x) (occurs same_text_of d seen) (occurs same_text_of d xs)))

declared_push : (own : Text) (ds : List Text) (d : Text) → declared_by own (ds ++ d ∷ []) ≡ declared_by own ds ++ to_own own (lone (occurs same_text_of d ds) d)
unfolding declared_by
declared_push own ds d = ap (to_own own) (once_push [] ds d) ∙ map-append (λ x. binding x (own, x)) (once ds) (lone (occurs same_text_of d ds) d)

some-own : (own : Text) (ds : List Text) (d : Text) → is_some (find (declared_by own ds) d) ≡ occurs same_text_of d ds
some-own own ds d = ap is_some (find-own own ds d) ∙ go (occurs same_text_of d ds)
  where
    go : (c : Bool) → is_some {T = Target} (cond c (Some (own, d)) None) ≡ c
    go true = refl
    go false = refl

pub declares_old : (own : Text) (d : Text) (b : List Binding) → true ≡ is_some (find b d) → (ds : List Text) → b ≡ declared_by own ds → b ≡ declared_by own (ds ++ d ∷ [])
declares_old own d b h ds e =
    let old : occurs same_text_of d ds ≡ true = sym (some-own own ds d) ∙ ap (λ x. is_some (find x d)) (sym e) ∙ sym h in
    e ∙ sym (append-nil (declared_by own ds)) ∙ ap (λ c. declared_by own ds ++ to_own own (lone c d)) (sym old) ∙ sym (declared_push own ds d)

pub declares-new : (own : Text) (d : Text) (b : List Binding) → false ≡ is_some (find b d) → (ds : List Text) → b ≡ declared_by own ds → b ++ binding d (own, d) ∷ [] ≡ declared_by own (ds ++ d ∷ [])
declares-new own d b h ds e =
    let new : occurs same_text_of d ds ≡ false = sym (some-own own ds d) ∙ ap (λ x. is_some (find x d)) (sym e) ∙ sym h in
    ap (λ x. x ++ binding d (own, d) ∷ []) e ∙ ap (λ c. declared_by own ds ++ to_own own (lone c d)) (sym new) ∙ sym (declared_push own ds d)

-- a name that is free is not declared
free_own : (own : Text) (ds : List Text) (d : Text) → find (declared_by own ds) d ≡ None → name_of (declared_by own ds) (own, d) ≡ None
free_own own ds d none = go (name_of (declared_by own ds) (own, d)) refl
  where
    go : (o : Option Text) → name_of (declared_by own ds) (own, d) ≡ o → o ≡ None
    go None is = refl
    go (Some w) is =
        let f = (own-lawful by_number proposes-by_number own ds).bound w (own, d) is in
        let e : d ≡ w = ap (λ t. t.1) (found_declared own ds w (own, d) f).1 in
        none-some (find (declared_by own ds) d) none (ap (find (declared_by own ds)) e ∙ f)

pub is_none : {A : Type 0} (o : Option A) → false ≡ is_some o → o ≡ None
is_none None h = refl
is_none (Some x) h = absurd (false≢true h)

pub only-declared : (own : Text) (ds : List Text) (s : Binder) → Declares own ds s → OnlyDeclared own s
only-declared own ds s x = record {
  indexed = x.indexed;
  free = λ d h. ap (λ b. name_of b (own, d)) x.bindings ∙ free_own own ds d (ap (λ b. find b d) (sym x.bindings) ∙ h);
}

pub declared-sound : (own : Text) (ds : List Text) (s : Binder) → Declares own ds s → Sound s
declared-sound own ds s x =
    record { lawful = subst (Lawful by_number) (sym x.bindings) (own-lawful by_number proposes-by_number own ds); indexed = x.indexed }

-- ---- the loop over the declared names

abbrev pub names_in : List DeclaredOf → List Text
names_in ds = map declared_name (map declared_of ds)

names_more : (ds : List DeclaredOf) (i : ℕ) (d : DeclaredOf) → i < length ds → names_in (take (i + 1) ds) ≡ names_in (take i ds) ++ (get_or ds i d).name.now ∷ []
names_more ds i d h =
    ap names_in (take_more ds i d h) ∙ ap (map declared_name) (map-append declared_of (take i ds) (get_or ds i d ∷ [])) ∙ map-append declared_name (map declared_of (take i ds)) (declared_of (get_or ds i d) ∷ [])

pub declares-none : (own : Text) (s : Binder) → bindings_in s ≡ [] → Indexed s → Declares own [] s
unfolding declared_by
declares-none own s e x = record { bindings = e; indexed = x }

pub declares-more : (own : Text) (ds : List DeclaredOf) (i : ℕ) (d : DeclaredOf) (s s' : Binder) → i < length ds → Declares own (names_in (take i ds)) s → DeclaresOne own (get_or ds i d).name.now s s' → Declares own (names_in (take (i + 1) ds)) s'
declares-more own ds i d s s' h x y =
    subst (λ ns. Declares own ns s') (sym (names_more ds i d h)) record { bindings = y.more (names_in (take i ds)) x.bindings; indexed = y.indexed }

pub declares-all : (own : Text) (ds : List DeclaredOf) (i : ℕ) (s : Binder) → length ds ≤ i → Declares own (names_in (take i ds)) s → Declares own (names_in ds) s
declares-all own ds i s h x = subst (λ l. Declares own (names_in l) s) (take_all i ds h) x
