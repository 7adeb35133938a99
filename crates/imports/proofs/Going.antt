-- Lines that are written as the bindings come.
use Rattle.std.proofs.Common.{◌≡◌, ℕ, ◌+◌, ◌<◌, ◌≤◌, Bool, true, false, cond, not, ◌&&◌, ◌||◌, List, [], ◌∷◌, ◌++◌, map, length, get_or, drop, IfOk, vec_items, codes, filter, Result, Vec, sym, refl, ap, ◌∙◌, subst, append_assoc, arith}
use lib.ListN.{length-map}
use Rattle.std.specs.BTreeSet.{BTreeSet}
use Rattle.std.specs.BTreeSet.{IsEmpty, IsOrdered, keys}
use Rattle.std.proofs.lemmas.List.{append-nil, drop_all, drop_more, get_or-map}
use Rattle.std.proofs.lemmas.Result.{IfOk-weaker}
use Rattle.std.proofs.lemmas.Bool.{false≢true, cond-true, cond-false}
use Rattle.model.specs.Tree.{Text}
use Rattle.model.specs.Uses.{builtins}
use Rattle.model.specs.Limits.{occurs, same_text_of}
use Rattle.references.proofs.Ties.{text-is, text_itself}
use Rattle.binding.specs.Binding.{Binding, binding}
use Rattle.binding.specs.declared.name.Entry.{Entry}
use Rattle.binding.specs.Held.{text_of, binding_of, bindings_of}
use Rattle.imports.specs.Lines.{imported, Import, import', import_of, Line, line, line_of, before, grouped, lines_of, import_text, others_text, start_text, line_text, sorted_texts, import_lines_of}
use Rattle.imports.specs.Held.{line_cmp, texts_in, begun, Puts}
use Rattle.imports.proofs.Texts.{ascends-sorted, occurs-sorted, one_list, another}
use Rattle.imports.proofs.Growing.{texts_ascend}

-- ---- a line and those after it

before_same : (m : Text) (is : List Import) (e : Binding) (ls : List Line) → same_text_of m e.target.0 ≡ true
    → before (line m is) (before (line_of e) ls) ≡ before (line m (is ++ import_of e ∷ [])) ls
before_same m is e [] h = cond-true _ _ _ h
before_same m is e (k ∷ ks) h = go (same_text_of e.target.0 k.from) refl
  where
    go : (c : Bool) → same_text_of e.target.0 k.from ≡ c
        → before (line m is) (cond c (line e.target.0 (import_of e ∷ k.imports) ∷ ks) (line_of e ∷ k ∷ ks))
        ≡ cond (same_text_of m k.from) (line m ((is ++ import_of e ∷ []) ++ k.imports) ∷ ks) (line m (is ++ import_of e ∷ []) ∷ k ∷ ks)
    go true f =
        cond-true _ _ _ h ∙ ap (λ x. line m x ∷ ks) (sym (append_assoc is (import_of e ∷ []) k.imports))
        ∙ sym (cond-true _ _ _ (ap (λ x. same_text_of x k.from) (text-is m e.target.0 h) ∙ f))
    go false f =
        cond-true _ _ _ h ∙ sym (cond-false _ _ _ (ap (λ x. same_text_of x k.from) (text-is m e.target.0 h) ∙ f))

before_other : (l : Line) (e : Binding) (ls : List Line) → same_text_of l.from e.target.0 ≡ false
    → before l (before (line_of e) ls) ≡ l ∷ before (line_of e) ls
before_other l e [] h = cond-false _ _ _ h
before_other l e (k ∷ ks) h = go (same_text_of e.target.0 k.from)
  where
    go : (c : Bool) → before l (cond c (line e.target.0 (import_of e ∷ k.imports) ∷ ks) (line_of e ∷ k ∷ ks))
        ≡ l ∷ cond c (line e.target.0 (import_of e ∷ k.imports) ∷ ks) (line_of e ∷ k ∷ ks)
    go true = cond-false _ _ _ h
    go false = cond-false _ _ _ h

-- one name more in a line

others_more : (is : List Import) (j : Import) → others_text (is ++ j ∷ []) ≡ (others_text is ++ codes ", ") ++ import_text j
others_more [] j = ap (λ x. codes ", " ++ x) (append-nil (import_text j))
others_more (i ∷ is) j =
    ap (λ x. codes ", " ++ (import_text i ++ x)) (others_more is j)
    ∙ ap (λ x. codes ", " ++ x) (sym (ap (λ x. x ++ import_text j) (append_assoc (import_text i) (others_text is) (codes ", ")) ∙ append_assoc (import_text i) (others_text is ++ codes ", ") (import_text j)))

line-more : (base m : Text) (i : Import) (is : List Import) (j : Import)
    → (line_text base (line m (i ∷ is)) ++ codes ", ") ++ import_text j ≡ line_text base (line m ((i ∷ is) ++ j ∷ []))
line-more base m i is j =
    append_assoc (start_text base m ++ (import_text i ++ others_text is)) (codes ", ") (import_text j)
    ∙ append_assoc (start_text base m) (import_text i ++ others_text is) (codes ", " ++ import_text j)
    ∙ ap (λ x. start_text base m ++ x) (append_assoc (import_text i) (others_text is) (codes ", " ++ import_text j)
    ∙ ap (λ x. import_text i ++ x) (sym (append_assoc (others_text is) (codes ", ") (import_text j)) ∙ sym (others_more is j)))

line-one : (base : Text) (e : Binding) → start_text base e.target.0 ++ import_text (import_of e) ≡ line_text base (line_of e)
line-one base e = ap (λ x. start_text base e.target.0 ++ x) (sym (append-nil (import_text (import_of e))))

-- no binding of the own module is imported
imported_other : (own : Text) (e : Binding) → imported own e ≡ true → same_text_of own e.target.0 ≡ false
imported_other own e h = another own e.target.0 (λ is. clash (same_text_of e.target.0 own) (ap (λ x. same_text_of x own) (sym is) ∙ text_itself own) h)
  where
    clash : (c : Bool) → c ≡ true → (not c && not (same_text_of e.target.0 builtins && same_text_of e.name e.target.1)) ≡ true → ⊥
    clash true k g = false≢true g
    clash false k g = false≢true k

module _ (own base : Text) where
  -- the texts of the lines that are to come, where a line of the module `from` is written as far as x
  abbrev pub going : Text → Text → List Binding → List Text
  going from x [] = begun x
  going from x (e ∷ b) =
      cond (imported own e)
      (cond (same_text_of from e.target.0) (going from ((x ++ codes ", ") ++ import_text (import_of e)) b)
      (begun x ++ going e.target.0 (start_text base e.target.0 ++ import_text (import_of e)) b))
      (going from x b)

  -- with a line that is begun
  going_on : (b : List Binding) (m : Text) (i : Import) (is : List Import)
      → going m (line_text base (line m (i ∷ is))) b ≡ map (line_text base) (before (line m (i ∷ is)) (lines_of own b))
  going_on [] m i is = refl
  going_on (e ∷ b) m i is = go (imported own e) refl (same_text_of m e.target.0) refl (λ js. going_on b m i js) (going_on b e.target.0 (import_of e) [])
    where
      go : (a : Bool) → imported own e ≡ a → (c : Bool) → same_text_of m e.target.0 ≡ c
          → ((js : List Import) → going m (line_text base (line m (i ∷ js))) b ≡ map (line_text base) (before (line m (i ∷ js)) (lines_of own b)))
          → going e.target.0 (line_text base (line_of e)) b ≡ map (line_text base) (before (line_of e) (lines_of own b))
          → cond a
          (cond c (going m ((line_text base (line m (i ∷ is)) ++ codes ", ") ++ import_text (import_of e)) b)
          (line_text base (line m (i ∷ is)) ∷ going e.target.0 (start_text base e.target.0 ++ import_text (import_of e)) b))
          (going m (line_text base (line m (i ∷ is))) b)
          ≡ map (line_text base) (before (line m (i ∷ is)) (grouped (cond a (e ∷ filter (imported own) b) (filter (imported own) b))))
      go true g true h same other =
          ap (λ x. going m x b) (line-more base m i is (import_of e)) ∙ same (is ++ import_of e ∷ [])
          ∙ ap (map (line_text base)) (sym (before_same m (i ∷ is) e (lines_of own b) h))
      go true g false h same other =
          ap (λ x. line_text base (line m (i ∷ is)) ∷ x) (ap (λ x. going e.target.0 x b) (line-one base e) ∙ other)
          ∙ ap (map (line_text base)) (sym (before_other (line m (i ∷ is)) e (lines_of own b) h))
      go false g c h same other = same is

  -- with none
  going_first : (b : List Binding) → going own [] b ≡ map (line_text base) (lines_of own b)
  going_first [] = refl
  going_first (e ∷ b) = go (imported own e) refl (going_first b)
    where
      go : (a : Bool) → imported own e ≡ a → going own [] b ≡ map (line_text base) (lines_of own b)
          → cond a (cond (same_text_of own e.target.0) (going own (([] ++ codes ", ") ++ import_text (import_of e)) b) (going e.target.0 (start_text base e.target.0 ++ import_text (import_of e)) b)) (going own [] b)
          ≡ map (line_text base) (grouped (cond a (e ∷ filter (imported own) b) (filter (imported own) b)))
      go true g more =
          cond-false _ _ _ (imported_other own e g) ∙ ap (λ x. going e.target.0 x b) (line-one base e) ∙ going_on b e.target.0 (import_of e) []
      go false g more = more

  -- the lines so far, before the binding with this number: those that are put, and those to come
  pub record Sofar {Y : Type 0} (b : List Binding) (from x : Text) (i : ℕ) (s : BTreeSet (Vec ℕ Y)) : Type 0 where
    pub ordered : IsOrdered line_cmp s
    pub holds : (q : Text) → (occurs same_text_of q (texts_in s) || occurs same_text_of q (going from x (drop i b))) ≡ occurs same_text_of q (map (line_text base) (lines_of own b))

  module _ {Y : Type 0} (b : List Binding) where
    pub sofar_none : (x : Text) (s : BTreeSet (Vec ℕ Y)) → IsEmpty s → IsOrdered line_cmp s → x ≡ [] → Sofar b own x 0 s
    sofar_none x s ks ordered is = record {
      ordered = ordered;
      holds = λ q. ap (λ ks'. occurs same_text_of q (map vec_items ks') || occurs same_text_of q (going own x b)) ks
          ∙ ap (λ y. occurs same_text_of q (going own y b)) is ∙ ap (occurs same_text_of q) (going_first b);
    }

    module _ (from x : Text) (i : ℕ) (e : Binding) (s : BTreeSet (Vec ℕ Y)) (here : drop i b ≡ e ∷ drop (i + 1) b) (h : Sofar b from x i s) where
      pub sofar_skip : imported own e ≡ false → Sofar b from x (i + 1) s
      sofar_skip test = record {
        ordered = h.ordered;
        holds = λ q. ap (λ ts. occurs same_text_of q (texts_in s) || occurs same_text_of q ts) (sym (ap (going from x) here ∙ cond-false _ _ _ test)) ∙ h.holds q;
      }

      pub sofar_join : (y : Text) → imported own e ≡ true → same_text_of from e.target.0 ≡ true → y ≡ (x ++ codes ", ") ++ import_text (import_of e) → Sofar b from y (i + 1) s
      sofar_join y test same is = record {
        ordered = h.ordered;
        holds = λ q. ap (λ ts. occurs same_text_of q (texts_in s) || occurs same_text_of q ts)
            (ap (λ z. going from z (drop (i + 1) b)) is ∙ sym (ap (going from x) here ∙ cond-true _ _ _ test ∙ cond-true _ _ _ same)) ∙ h.holds q;
      }

      pub sofar_next : (y : Text) (n : BTreeSet (Vec ℕ Y)) → imported own e ≡ true → same_text_of from e.target.0 ≡ false
          → y ≡ start_text base e.target.0 ++ import_text (import_of e) → Puts s x n → Sofar b e.target.0 y (i + 1) n
      sofar_next y n test same is put =
          let after = put h.ordered in
          record {
            ordered = after.0;
            holds = λ q. (λ t. after.1 q t || occurs same_text_of q (going e.target.0 (is t) (drop (i + 1) b)))
                ∙ moved x q (going e.target.0 (start_text base e.target.0 ++ import_text (import_of e)) (drop (i + 1) b))
                ∙ ap (λ ts. occurs same_text_of q (texts_in s) || occurs same_text_of q ts) (sym (ap (going from x) here ∙ cond-true _ _ _ test ∙ cond-false _ _ _ same)) ∙ h.holds q;
          }
        where
          turned : (a c d : Bool) → ((a || false) || c || d) ≡ (c || (a || d))
          turned true true d = refl
          turned true false d = refl
          turned false c d = refl

          moved : (z : Text) (q : Text) (ts : List Text) → ((occurs same_text_of q (begun z) || occurs same_text_of q (texts_in s)) || occurs same_text_of q ts) ≡ (occurs same_text_of q (texts_in s) || occurs same_text_of q (begun z ++ ts))
          moved [] q ts = refl
          moved (c ∷ cs) q ts = turned (same_text_of q (c ∷ cs)) (occurs same_text_of q (texts_in s)) (occurs same_text_of q ts)

    -- every binding
    pub sofar_all : (from x : Text) (i : ℕ) (s n : BTreeSet (Vec ℕ Y)) → length b ≤ i → Sofar b from x i s → Puts s x n → texts_in n ≡ import_lines_of own base b
    unfolding import_lines_of
    sofar_all from x i s n l h put =
        let after = put h.ordered in
        one_list (texts_in n) (sorted_texts (map (line_text base) (lines_of own b))) (texts_ascend n after.0) (ascends-sorted (map (line_text base) (lines_of own b)))
        (λ q. after.1 q ∙ swapped (occurs same_text_of q (begun x)) (occurs same_text_of q (texts_in s))
        ∙ ap (λ ts. occurs same_text_of q (texts_in s) || occurs same_text_of q ts) (sym (ap (going from x) (drop_all i b l))) ∙ h.holds q
        ∙ sym (occurs-sorted q (map (line_text base) (lines_of own b))))
      where
        swapped : (a c : Bool) → (a || c) ≡ (c || a)
        swapped true true = refl
        swapped true false = refl
        swapped false true = refl
        swapped false false = refl

-- ---- the same by the entries of the code

pub writes_as : (x y z w root name : Text) → false ≡ same_text_of root name → y ≡ x ++ root → z ≡ y ++ codes " as " → w ≡ z ++ name
    → w ≡ x ++ import_text (import' root name)
writes_as x y z w root name other a b c =
    c ∙ ap (λ t. t ++ name) (b ∙ ap (λ t. t ++ codes " as ") a) ∙ append_assoc (x ++ root) (codes " as ") name ∙ append_assoc x root (codes " as " ++ name)
    ∙ ap (λ t. x ++ t) (sym (cond-false _ _ _ (sym other)))

module _ (own base pool : Text) (es : List Entry) (i : ℕ) (d : Entry) (from x name : Text) (l : i < length es) (named : name ≡ text_of pool (get_or es i d).name) where
  abbrev at : Binding
  at = binding_of pool (get_or es i d)

  at_entry : drop i (bindings_of pool es) ≡ at ∷ drop (i + 1) (bindings_of pool es)
  at_entry =
      drop_more (bindings_of pool es) i (binding_of pool d) (omega (arith, length-map es (binding_of pool)))
      ∙ ap (λ e. e ∷ drop (i + 1) (bindings_of pool es)) (get_or-map (binding_of pool) es i d (binding_of pool d) l)

  as_held : binding name at.target ≡ at
  as_held = ap (λ t. binding t at.target) named

  module _ {Y : Type 0} (s : BTreeSet (Vec ℕ Y)) (h : Sofar own base (bindings_of pool es) from x i s) where
    pub turn_skip : false ≡ imported own (binding name at.target) → Sofar own base (bindings_of pool es) from x (i + 1) s
    turn_skip test = sofar_skip own base (bindings_of pool es) from x i at s at_entry h (ap (imported own) (sym as_held) ∙ sym test)

    pub turn_join : (y z : Text) → true ≡ imported own (binding name at.target) → true ≡ same_text_of from at.target.0
        → y ≡ x ++ codes ", " → z ≡ y ++ import_text (import' at.target.1 name) → Sofar own base (bindings_of pool es) from z (i + 1) s
    turn_join y z test same a b =
        sofar_join own base (bindings_of pool es) from x i at s at_entry h z (ap (imported own) (sym as_held) ∙ sym test) (sym same)
        (b ∙ (λ t. a t ++ import_text (import_of (as_held t))))

    pub turn_next : (y z : Text) (n : BTreeSet (Vec ℕ Y)) → true ≡ imported own (binding name at.target) → false ≡ same_text_of from at.target.0
        → y ≡ start_text base at.target.0 → z ≡ y ++ import_text (import' at.target.1 name) → Puts s x n → Sofar own base (bindings_of pool es) at.target.0 z (i + 1) n
    turn_next y z n test same a b put =
        sofar_next own base (bindings_of pool es) from x i at s at_entry h z n (ap (imported own) (sym as_held) ∙ sym test) (sym same)
        (b ∙ (λ t. a t ++ import_text (import_of (as_held t)))) put

-- where ways meet
pub same_sofar : {Y : Type 0} (own base : Text) (b : List Binding) (i : ℕ) (from from' x x' : Text) (s s' : BTreeSet (Vec ℕ Y)) → from ≡ from' → x ≡ x' → s ≡ s'
    → Sofar own base b from' x' i s' → Sofar own base b from x i s
same_sofar own base b i from from' x x' s s' p q r h =
    subst (λ k. Sofar own base b k x i s) (sym p) (subst (λ k. Sofar own base b from' k i s) (sym q) (subst (λ k. Sofar own base b from' x' i k) (sym r) h))

pub lines-all : {Y V E : Type 0} (own base pool : Text) (es : List Entry) (from x : Text) (i : ℕ) (s n : BTreeSet (Vec ℕ Y)) (r : Result (Vec (Vec ℕ Y) V) E) → length es ≤ i
    → Sofar own base (bindings_of pool es) from x i s → Puts s x n → IfOk r (λ v. vec_items v ≡ keys n)
    → IfOk r (λ v. map vec_items (vec_items v) ≡ import_lines_of own base (bindings_of pool es))
lines-all own base pool es from x i s n r l h put is =
    IfOk-weaker r (λ v. vec_items v ≡ keys n) _
    (λ v e. ap (map vec_items) e ∙ sofar_all own base (bindings_of pool es) from x i s n (omega (arith, length-map es (binding_of pool))) h put) is
