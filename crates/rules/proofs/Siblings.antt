-- No module repeats the name of a sibling exactly if each module's own submodules have different names.
use Rattle.std.proofs.Common.{◌≡◌, ℕ, ◌+◌, ◌<◌, ◌≤◌, Bool, true, false, cond, eqb, ◌⊎◌, ◌↔◌, List, [], ◌∷◌, ◌++◌, map, Some, None, Option, sym, refl, ap, ◌∙◌, subst, inl, inr, arith}
use Rattle.std.specs.List.{AllByRecursion}
use mathlib.Core.Logic.Iff
use Rattle.text.proofs.Each.{each_weaker, each-append}
use Rattle.std.proofs.lemmas.Bool.{cases_Bool, both_ways, or_parts, or_from}
use Rattle.std.proofs.lemmas.Bool.Decides.{Decides-and, Decides-like, Decides-eqb}
use Rattle.model.specs.Tree.{Text, Module, Modules, pymodule, no_module, add_module}
use Rattle.model.specs.Files.{Held, files, files_in, modules_within, modules_in, helds, helds_in}
use Rattle.model.specs.Limits.{Keyed, occurs, repeats_after, repeats, same_text_of, same_holder, same_held, held_key}
use Rattle.model.specs.Verdict.{module_name, repeated_modules}
use Rattle.rules.specs.Meets.{listed_modules, submodules, AllDifferent}
use Rattle.rules.proofs.Empty.{append_nil_both, cond_nil, all_both, all-parts}
use Rattle.rules.proofs.Counts.{Same, keys, same_text}

-- x is none of these
abbrev pub Fresh : {K : Type 0} → K → List K → Type 0
Fresh x ys = AllByRecursion (λ y. x ≡ y → ⊥) ys

abbrev pub Apart : {K : Type 0} → List K → List K → Type 0
Apart xs ys = AllByRecursion (λ x. Fresh x ys) xs

abbrev pub NoTwice : {K : Type 0} → List K → Type 0
NoTwice [] = Unit {0}
NoTwice (x ∷ xs) = Fresh x xs × NoTwice xs

pub no_twice_parts : {K : Type 0} (xs ys : List K) → NoTwice (xs ++ ys) ↔ ((NoTwice xs × NoTwice ys) × Apart xs ys)
no_twice_parts [] ys = (λ h. ((tt, h), tt), λ h. h.0.1)
no_twice_parts (x ∷ xs) ys =
    let here = all-parts (λ y. x ≡ y → ⊥) xs ys in
    let rest = no_twice_parts xs ys in (
      λ h. let f = here.0 h.0 in let r = rest.0 h.1 in (((f.0, r.0.0), r.0.1), (f.1, r.1)),
      λ h. (here.1 (h.0.0.0, h.1.0), rest.1 ((h.0.0.1, h.0.1), h.1.1)),
    )

module _ {K : Type 0} (same : K → K → Bool) (decides : Same same) where
  pub occurs_fresh : (x : K) (ys : List K) → (occurs same x ys ≡ false) ↔ Fresh x ys
  occurs_fresh x [] = (λ e. tt, λ h. refl)
  occurs_fresh x (y ∷ ys) = (
    λ e. let p = or_parts (same x y) (occurs same x ys) e in (λ z. both_ways (same x y) p.0 ((decides x y).1 z), (occurs_fresh x ys).0 p.1),
    λ h. or_from (same x y) (occurs same x ys) (differ (cases_Bool (same x y)) h.0) ((occurs_fresh x ys).1 h.1),
  )
    where
      differ : ((same x y ≡ true) ⊎ (same x y ≡ false)) → (x ≡ y → ⊥) → same x y ≡ false
      differ (inl t) h = absurd (h ((decides x y).0 t))
      differ (inr f) h = f

  repeats-after : (seen : List K) (xs : List (Keyed K)) → (repeats_after same seen xs ≡ []) ↔ (Apart (keys xs) seen × NoTwice (keys xs))
  repeats-after seen [] = (λ e. (tt, tt), λ h. refl)
  repeats-after seen (x ∷ xs) =
      let both = append_nil_both (cond (occurs same x.key seen) (x.place ∷ []) []) (repeats_after same (x.key ∷ seen) xs) in
      let here = Iff.trans (cond_nil (occurs same x.key seen) x.place) (occurs_fresh x.key seen) in
      let rest = repeats-after (x.key ∷ seen) xs in
      let split = all_both (λ z. z ≡ x.key → ⊥) (λ z. Fresh z seen) (keys xs) in (
        λ e. let b = both.0 e in let r = rest.0 b.1 in let s = split.0 r.0 in ((here.0 b.0, s.1), (turned x.key (keys xs) s.0, r.1)),
        λ h. both.1 (here.1 h.0.0, rest.1 (split.1 (back x.key (keys xs) h.1.0, h.0.1), h.1.1)),
      )
    where
      turned : (k : K) (ks : List K) → AllByRecursion (λ z. z ≡ k → ⊥) ks → Fresh k ks
      turned k ks h = each_weaker (λ z. z ≡ k → ⊥) (λ z. k ≡ z → ⊥) (λ z f e. f (sym e)) ks h

      back : (k : K) (ks : List K) → Fresh k ks → AllByRecursion (λ z. z ≡ k → ⊥) ks
      back k ks h = each_weaker (λ z. k ≡ z → ⊥) (λ z. z ≡ k → ⊥) (λ z f e. f (sym e)) ks h

  pub repeats_nil : (xs : List (Keyed K)) → (repeats same xs ≡ []) ↔ NoTwice (keys xs)
  repeats_nil xs = let r = repeats-after [] xs in (λ e. (r.0 e).1, λ h. r.1 (alone (keys xs), h))
    where
      alone : (ks : List K) → Apart ks []
      alone [] = tt
      alone (k ∷ ks) = (tt, alone ks)

pub same-holder : Same same_holder
same-holder None None = (λ e. refl, λ e. refl)
same-holder None (Some y) = (λ e. let z : ◌≡◌ {A = ℕ} 0 1 = cc in absurd (omega arith), λ e. let z : ◌≡◌ {A = ℕ} 0 1 = cc in absurd (omega arith))
same-holder (Some x) None = (λ e. let z : ◌≡◌ {A = ℕ} 0 1 = cc in absurd (omega arith), λ e. let z : ◌≡◌ {A = ℕ} 0 1 = cc in absurd (omega arith))
same-holder (Some x) (Some y) = Decides-like (eqb x y) (λ e. ap Some e) (λ e. cc) (Decides-eqb x y)

pub same-held : Same same_held
same-held x y =
    Decides-like (same_held x y) (λ h. (λ i. (h.0 i, h.1 i))) (λ e. (ap (λ z. z.0) e, ap (λ z. z.1) e))
    (Decides-and (same_holder x.0 y.0) (same_text_of x.1 y.1) (same-holder x.0 y.0) (same_text x.1 y.1))

-- the keys of a module and all below it

abbrev Key : Type 0
Key = Option ℕ × Text

abbrev mutual
  keys_of : Module → ℕ → Option ℕ → List Key
  keys_of (pymodule p s modules own classes functions attributes) k h = (h, s) ∷ keys_in_of modules (k + 1) (Some k)

  keys_in_of : Modules → ℕ → Option ℕ → List Key
  keys_in_of no_module k h = []
  keys_in_of (add_module m ms) k h = keys_of m k h ++ keys_in_of ms (k + modules_within m) h

abbrev held-keys : List Held → List Key
held-keys hs = keys (map held_key hs)

held_keys_append : (xs ys : List Held) → held-keys (xs ++ ys) ≡ held-keys xs ++ held-keys ys
held_keys_append [] ys = refl
held_keys_append (x ∷ xs) ys = ap (λ ks. (x.holder, x.name) ∷ ks) (held_keys_append xs ys)

mutual
  keys_of_lem : (m : Module) (k : ℕ) (h : Option ℕ) → held-keys (helds m k h) ≡ keys_of m k h
  keys_of_lem (pymodule p s modules own classes functions attributes) k h = ap (λ ks. (h, s) ∷ ks) (keys_in modules (k + 1) (Some k))

  keys_in : (ms : Modules) (k : ℕ) (h : Option ℕ) → held-keys (helds_in ms k h) ≡ keys_in_of ms k h
  keys_in no_module k h = refl
  keys_in (add_module m ms) k h =
      held_keys_append (helds m k h) (helds_in ms (k + modules_within m) h) ∙ (λ i. keys_of_lem m k h i ++ keys_in ms (k + modules_within m) h i)

-- which numbers their holders have

abbrev Before : ℕ → Option ℕ → Type 0
Before k None = Unit {0}
Before k (Some j) = j < k

abbrev Inside : ℕ → ℕ → Option ℕ → Type 0
Inside low high None = ⊥
Inside low high (Some j) = (low ≤ j) × (j < high)

abbrev Ranges : ℕ → ℕ → Option ℕ → Key → Type 0
Ranges low high h x = (x.0 ≡ h) ⊎ Inside low high x.0

before-later : (k n : ℕ) (h : Option ℕ) → k ≤ n → Before k h → Before n h
before-later k n None l b = tt
before-later k n (Some j) l b = omega arith

inside_wider : (low high low' high' : ℕ) (h : Option ℕ) → low' ≤ low → high ≤ high' → Inside low high h → Inside low' high' h
inside_wider low high low' high' None l r b = b
inside_wider low high low' high' (Some j) l r b = (omega arith, omega arith)

-- what is before a range is not inside it
outside : (k low high : ℕ) (h g : Option ℕ) → k ≤ low → Before k h → Inside low high g → h ≡ g → ⊥
outside k low high None None l b i e = i
outside k low high None (Some j) l b i e = let z : ◌≡◌ {A = ℕ} 0 1 = cc in omega arith
outside k low high (Some j) None l b i e = i
outside k low high (Some j) (Some n) l b i e = let z : j ≡ n = cc in omega arith

inside-before : (low high : ℕ) (h : Option ℕ) → Inside low high h → Before high h
inside-before low high None i = tt
inside-before low high (Some j) i = i.1

ranges_wider : (low high low' high' : ℕ) (h : Option ℕ) (x : Key) → low' ≤ low → high ≤ high' → Ranges low high h x → Ranges low' high' h x
ranges_wider low high low' high' h x l r (inl e) = inl e
ranges_wider low high low' high' h x l r (inr i) = inr (inside_wider low high low' high' x.0 l r i)

-- held by file k, or by one behind it
below : (k n : ℕ) (x : Key) → Ranges (k + 1) (k + 1 + n) (Some k) x → Inside k (k + (1 + n)) x.0
below k n x (inl e) = subst (Inside k (k + (1 + n))) (sym e) (omega arith, omega arith)
below k n x (inr i) = inside_wider (k + 1) (k + 1 + n) k (k + (1 + n)) x.0 (omega arith) (omega arith) i

all-below : (ms : Modules) (k : ℕ) → AllByRecursion (Ranges (k + 1) (k + 1 + modules_in ms) (Some k)) (keys_in_of ms (k + 1) (Some k)) → AllByRecursion (λ x. Inside k (k + (1 + modules_in ms)) x.0) (keys_in_of ms (k + 1) (Some k))
all-below ms k h =
    each_weaker (Ranges (k + 1) (k + 1 + modules_in ms) (Some k)) (λ x. Inside k (k + (1 + modules_in ms)) x.0) (below k (modules_in ms)) (keys_in_of ms (k + 1) (Some k)) h

mutual
  ranges_of : (m : Module) (k : ℕ) (h : Option ℕ) → AllByRecursion (Ranges k (k + modules_within m) h) (keys_of m k h)
  ranges_of (pymodule p s modules own classes functions attributes) k h =
      (inl refl, each_weaker (λ x. Inside k (k + (1 + modules_in modules)) x.0) (Ranges k (k + (1 + modules_in modules)) h) (λ x i. inr i) (keys_in_of modules (k + 1) (Some k)) (all-below modules k (ranges_in modules (k + 1) (Some k))))

  ranges_in : (ms : Modules) (k : ℕ) (h : Option ℕ) → AllByRecursion (Ranges k (k + modules_in ms) h) (keys_in_of ms k h)
  ranges_in no_module k h = tt
  ranges_in (add_module m ms) k h =
      let w : ℕ = modules_within m in
      let n : ℕ = modules_in ms in
      let R : Key → Type 0 = Ranges k (k + (w + n)) h in
      each-append R (keys_of m k h) (keys_in_of ms (k + w) h)
      (each_weaker (Ranges k (k + w) h) R (λ x r. ranges_wider k (k + w) k (k + (w + n)) h x (omega arith) (omega arith) r) (keys_of m k h) (ranges_of m k h))
      (each_weaker (Ranges (k + w) (k + w + n) h) R (λ x r. ranges_wider (k + w) (k + w + n) k (k + (w + n)) h x (omega arith) (omega arith) r) (keys_in_of ms (k + w) h) (ranges_in ms (k + w) h))

-- the keys under a module whose number is k
below_in : (ms : Modules) (k : ℕ) → AllByRecursion (λ x. Inside k (k + (1 + modules_in ms)) x.0) (keys_in_of ms (k + 1) (Some k))
below_in ms k = all-below ms k (ranges_in ms (k + 1) (Some k))

abbrev names_of : Modules → List Text
names_of ms = map module_name (listed_modules ms)

-- a key held by h is none of the keys under a module whose number is behind h
fresh_below : (ms : Modules) (k : ℕ) (h : Option ℕ) (s : Text) → Before k h → Fresh (h, s) (keys_in_of ms (k + 1) (Some k))
fresh_below ms k h s b =
    each_weaker (λ (x : Key). Inside k (k + (1 + modules_in ms)) x.0) (λ (x : Key). (h, s) ≡ x → ⊥)
    (λ x i e. outside k k (k + (1 + modules_in ms)) h x.0 (omega arith) b i (ap (λ z. z.0) e)) (keys_in_of ms (k + 1) (Some k)) (below_in ms k)

-- so it is new among siblings exactly if its name is
fresh_in : (ms : Modules) (k : ℕ) (h : Option ℕ) (s : Text) → Before k h → Fresh (h, s) (keys_in_of ms k h) ↔ Fresh s (names_of ms)
fresh_in no_module k h s b = (λ f. tt, λ f. tt)
fresh_in (add_module m ms) k h s b =
    let w : ℕ = modules_within m in
    Iff.trans (all-parts (λ (x : Key). (h, s) ≡ x → ⊥) (keys_of m k h) (keys_in_of ms (k + w) h)) (Iff.and (first m) (fresh_in ms (k + w) h s (before-later k (k + w) h (omega arith) b)))
  where
    first : (m : Module) → Fresh (h, s) (keys_of m k h) ↔ (s ≡ module_name m → ⊥)
    first (pymodule p t modules own classes functions attributes) =
        (λ f e. f.0 (ap (λ (z : Text). (h, z)) e), λ f. (λ e. f (ap (λ z. z.1) e), fresh_below modules k h s b))

-- what a module's submodules hold is apart from its later siblings and what these hold
apart-later : (sub ms : Modules) (k : ℕ) (h : Option ℕ) → Before k h → Apart (keys_in_of sub (k + 1) (Some k)) (keys_in_of ms (k + (1 + modules_in sub)) h)
apart-later sub ms k h b =
    let w : ℕ = 1 + modules_in sub in
    let n : ℕ = modules_in ms in
    each_weaker (λ (x : Key). Inside k (k + w) x.0) (λ (x : Key). Fresh x (keys_in_of ms (k + w) h))
    (λ x i. each_weaker (Ranges (k + w) (k + w + n) h) (λ (y : Key). x ≡ y → ⊥) (λ y r e. clash x y i r (ap (λ z. z.0) e)) (keys_in_of ms (k + w) h) (ranges_in ms (k + w) h))
    (keys_in_of sub (k + 1) (Some k)) (below_in sub k)
  where
    clash : (x y : Key) → Inside k (k + (1 + modules_in sub)) x.0 → Ranges (k + (1 + modules_in sub)) (k + (1 + modules_in sub) + modules_in ms) h y → x.0 ≡ y.0 → ⊥
    clash x y i (inl r) e = outside k k (k + (1 + modules_in sub)) h x.0 (omega arith) b i (sym (e ∙ r))
    clash x y i (inr r) e = outside (k + (1 + modules_in sub)) (k + (1 + modules_in sub)) (k + (1 + modules_in sub) + modules_in ms) x.0 y.0 (omega arith) (inside-before k (k + (1 + modules_in sub)) x.0 i) r e

apart_next : (m : Module) (ms : Modules) (k : ℕ) (h : Option ℕ) → Before k h → Apart (keys_of m k h) (keys_in_of ms (k + modules_within m) h) ↔ Fresh (module_name m) (names_of ms)
apart_next (pymodule p s sub own classes functions attributes) ms k h b =
    let w : ℕ = 1 + modules_in sub in
    let f = fresh_in ms (k + w) h s (before-later k (k + w) h (omega arith) b) in
    (λ a. f.0 a.0, λ a. (f.1 a, apart-later sub ms k h b))

abbrev pub SiblingsDiffer : Module → Type 0
SiblingsDiffer f = AllDifferent (map module_name (submodules f))

mutual
  twice_of : (m : Module) (k : ℕ) (h : Option ℕ) → Before k h → NoTwice (keys_of m k h) ↔ AllByRecursion SiblingsDiffer (files m)
  twice_of (pymodule p s sub own classes functions attributes) k h b =
      let r = twice_in sub (k + 1) (Some k) (omega arith) in
      (λ t. r.0 t.1, λ a. (fresh_below sub k h s b, r.1 a))

  twice_in : (ms : Modules) (k : ℕ) (h : Option ℕ) → Before k h → NoTwice (keys_in_of ms k h) ↔ (AllDifferent (names_of ms) × AllByRecursion SiblingsDiffer (files_in ms))
  twice_in no_module k h b = (λ t. (tt, tt), λ t. tt)
  twice_in (add_module m ms) k h b =
      let w : ℕ = modules_within m in
      let parts = no_twice_parts (keys_of m k h) (keys_in_of ms (k + w) h) in
      let one = twice_of m k h b in
      let rest = twice_in ms (k + w) h (before-later k (k + w) h (omega arith) b) in
      let next = apart_next m ms k h b in
      let both = all-parts SiblingsDiffer (files m) (files_in ms) in (
        λ t. let p = parts.0 t in let r = rest.0 p.0.1 in ((next.0 p.1, r.0), both.1 (one.0 p.0.0, r.1)),
        λ a. let f = both.0 a.1 in parts.1 ((one.1 f.0, rest.1 (a.0.1, f.1)), next.1 a.0.0),
      )

pub siblings_nil : (m : Module) → (repeated_modules m ≡ []) ↔ AllByRecursion SiblingsDiffer (files m)
siblings_nil m =
    Iff.trans (subst (λ ks. (repeated_modules m ≡ []) ↔ NoTwice ks) (keys_of_lem m 0 None) (repeats_nil same_held same-held (map held_key (helds m 0 None)))) (twice_of m 0 None tt)
