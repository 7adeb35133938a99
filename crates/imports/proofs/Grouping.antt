-- Bindings in lines: none is lost, none is made up, and where the modules do not descend, no module has two lines.
use Rattle.std.proofs.Common.{◌≡◌, ℕ, ◌+◌, ◌<◌, Bool, true, false, cond, ◌&&◌, ◌≢◌, List, [], ◌∷◌, ◌++◌, map, length, Ordering, Less, Equal, Greater, sym, refl, ap, ◌∙◌, subst, append_assoc, arith, length-append}
use Rattle.std.specs.List.{AllByRecursion}
use Rattle.std.specs.Cmp.Lexicographic.{slice_cmp}
use Rattle.std.specs.List.{AllByRecursion as Every}
use Rattle.std.specs.List.Sorted.{IsStrictlySortedBy}
use Rattle.std.proofs.lemmas.List.{map-append}
use Rattle.std.proofs.lemmas.Bool.{false≢true}
use Rattle.model.specs.Tree.{Text}
use Rattle.model.specs.Limits.{same_text_of, same_reference}
use Rattle.references.proofs.Ties.{text-is, text_itself}
use Rattle.binding.specs.Binding.{Target, Binding, binding}
use Rattle.imports.specs.Lines.{Import, Line, line, line_of, before, grouped}
use Rattle.imports.specs.Laws.{bindings_in, all_bindings, times_in, times, Apart}
use Rattle.imports.proofs.Texts.{equal_is, below_apart, below_through}
use Rattle.std.specs.Ordering.{nat_cmp}

-- ---- nothing is lost

abbrev under : Text → Import → Binding
under m i = binding i.name (m, i.root)

all-before : (l : Line) (ls : List Line) → all_bindings (before l ls) ≡ bindings_in l ++ all_bindings ls
all-before l [] = refl
all-before l (k ∷ ks) = go (same_text_of l.from k.from) refl
  where
    go : (c : Bool) → same_text_of l.from k.from ≡ c
        → all_bindings (cond c (line l.from (l.imports ++ k.imports) ∷ ks) (l ∷ k ∷ ks)) ≡ bindings_in l ++ (bindings_in k ++ all_bindings ks)
    go true e =
        ap (λ x. x ++ all_bindings ks) (map-append (under l.from) l.imports k.imports)
        ∙ append_assoc (bindings_in l) (map (under l.from) k.imports) (all_bindings ks)
        ∙ ap (λ m. bindings_in l ++ (map (under m) k.imports ++ all_bindings ks)) (text-is l.from k.from e)
    go false e = refl

pub all-grouped : (b : List Binding) → all_bindings (grouped b) ≡ b
all-grouped [] = refl
all-grouped (e ∷ b) = all-before (line_of e) (grouped b) ∙ ap (λ x. e ∷ x) (all-grouped b)

abbrev Filled : Line → Type 0
Filled l = 0 < length l.imports

some-before : (l : Line) (ls : List Line) → Filled l → AllByRecursion Filled ls → AllByRecursion Filled (before l ls)
some-before l [] here h = (here, tt)
some-before l (k ∷ ks) here h = go (same_text_of l.from k.from)
  where
    go : (c : Bool) → AllByRecursion Filled (cond c (line l.from (l.imports ++ k.imports) ∷ ks) (l ∷ k ∷ ks))
    go true = (omega (arith, length-append l.imports k.imports), h.1)
    go false = (here, h)

pub some-grouped : (b : List Binding) → AllByRecursion Filled (grouped b)
some-grouped [] = tt
some-grouped (e ∷ b) = some-before (line_of e) (grouped b) (omega arith) (some-grouped b)

-- ---- the modules of the lines

module _ (P : Text → Type 0) where
  each-before : (l : Line) (ls : List Line) → P l.from → AllByRecursion (λ k. P k.from) ls → AllByRecursion (λ k. P k.from) (before l ls)
  each-before l [] here h = (here, tt)
  each-before l (k ∷ ks) here h = go (same_text_of l.from k.from)
    where
      go : (c : Bool) → AllByRecursion (λ k. P k.from) (cond c (line l.from (l.imports ++ k.imports) ∷ ks) (l ∷ k ∷ ks))
      go true = (here, h.1)
      go false = (here, h)

  pub each-grouped : (b : List Binding) → AllByRecursion (λ e. P e.target.0) b → AllByRecursion (λ l. P l.from) (grouped b)
  each-grouped [] h = tt
  each-grouped (e ∷ b) h = each-before (line_of e) (grouped b) h.0 (each-grouped b h.1)

abbrev pub NotAbove : Text → Text → Type 0
NotAbove x y = slice_cmp nat_cmp x y ≡ Greater → ⊥

-- no module is above one after it
abbrev pub Rising : List Binding → Type 0
Rising [] = Unit {0}
Rising (e ∷ b) = AllByRecursion (λ k. NotAbove e.target.0 k.target.0) b × Rising b

abbrev modules : List Line → List Text
modules ls = map (λ l. l.from) ls

every-below : (x y : Text) (zs : List Text) → slice_cmp nat_cmp x y ≡ Less → Every (λ z. slice_cmp nat_cmp y z ≡ Less) zs → Every (λ z. slice_cmp nat_cmp x z ≡ Less) zs
every-below x y [] less h = tt
every-below x y (z ∷ zs) less h = (below_through x y z less h.0, every-below x y zs less h.1)

sorted_before : (l : Line) (ls : List Line) → AllByRecursion (λ k. NotAbove l.from k.from) ls → IsStrictlySortedBy (slice_cmp nat_cmp) (modules ls) → IsStrictlySortedBy (slice_cmp nat_cmp) (modules (before l ls))
unfolding IsStrictlySortedBy
sorted_before l [] under h = (tt, tt)
sorted_before l (k ∷ ks) under h = go (same_text_of l.from k.from) refl (slice_cmp nat_cmp l.from k.from) refl
  where
    go : (c : Bool) → same_text_of l.from k.from ≡ c → (o : Ordering) → slice_cmp nat_cmp l.from k.from ≡ o
        → IsStrictlySortedBy (slice_cmp nat_cmp) (modules (cond c (line l.from (l.imports ++ k.imports) ∷ ks) (l ∷ k ∷ ks)))
    go true e o f = subst (λ m. IsStrictlySortedBy (slice_cmp nat_cmp) (m ∷ modules ks)) (sym (text-is l.from k.from e)) h
    go false e Less f = ((f, every-below l.from k.from (modules ks) f h.0), h)
    go false e Equal f =
        absurd (false≢true (sym e ∙ ap (same_text_of l.from) (sym (equal_is l.from k.from f)) ∙ text_itself l.from))
    go false e Greater f = absurd (under.0 f)

pub sorted-grouped : (b : List Binding) → Rising b → IsStrictlySortedBy (slice_cmp nat_cmp) (modules (grouped b))
unfolding IsStrictlySortedBy
sorted-grouped [] h = tt
sorted-grouped (e ∷ b) h =
    sorted_before (line_of e) (grouped b) (each-grouped (NotAbove e.target.0) b h.0) (sorted-grouped b h.1)

every-apart : (x : Text) (ys : List Text) → Every (λ y. slice_cmp nat_cmp x y ≡ Less) ys → AllByRecursion (λ y. x ≢ y) ys
every-apart x [] h = tt
every-apart x (y ∷ ys) h = (below_apart x y h.0, every-apart x ys h.1)

pub apart-sorted : (xs : List Text) → IsStrictlySortedBy (slice_cmp nat_cmp) xs → Apart xs
unfolding IsStrictlySortedBy
apart-sorted [] h = tt
apart-sorted (x ∷ xs) h = (every-apart x xs h.0, apart-sorted xs h.1)

-- ---- how often a target comes

abbrev pub tally : Target → List Binding → ℕ
tally t [] = 0
tally t (e ∷ b) = cond (same_reference t e.target) 1 0 + tally t b

times_in_append : (root : Text) (is js : List Import) → times_in root (is ++ js) ≡ times_in root is + times_in root js
times_in_append root [] js = omega arith
times_in_append root (i ∷ is) js = let h = times_in_append root is js in omega arith

times-before : (t : Target) (l : Line) (ls : List Line) → times t (before l ls) ≡ times t (l ∷ ls)
times-before t l [] = refl
times-before t l (k ∷ ks) = go (same_text_of l.from k.from) refl
  where
    merged : (a : Bool) → cond a (times_in t.1 (l.imports ++ k.imports)) 0 + times t ks
        ≡ cond a (times_in t.1 l.imports) 0 + (cond a (times_in t.1 k.imports) 0 + times t ks)
    merged true = let h = times_in_append t.1 l.imports k.imports in omega arith
    merged false = omega arith

    go : (c : Bool) → same_text_of l.from k.from ≡ c → times t (cond c (line l.from (l.imports ++ k.imports) ∷ ks) (l ∷ k ∷ ks)) ≡ times t (l ∷ k ∷ ks)
    go true e =
        merged (same_text_of t.0 l.from)
        ∙ ap (λ m. cond (same_text_of t.0 l.from) (times_in t.1 l.imports) 0 + (cond (same_text_of t.0 m) (times_in t.1 k.imports) 0 + times t ks)) (text-is l.from k.from e)
    go false e = refl

pub times-grouped : (t : Target) (b : List Binding) → times t (grouped b) ≡ tally t b
times-grouped t [] = refl
times-grouped t (e ∷ b) = times-before t (line_of e) (grouped b) ∙ one (same_text_of t.0 e.target.0) (same_text_of t.1 e.target.1) (times-grouped t b)
  where
    one : (a c : Bool) → times t (grouped b) ≡ tally t b → cond a (cond c 1 0 + 0) 0 + times t (grouped b) ≡ cond (a && c) 1 0 + tally t b
    one true true h = omega arith
    one true false h = omega arith
    one false c h = omega arith
