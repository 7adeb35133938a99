-- What a reader and a writer have to do with one another, for any of the format's items.
use Rattle.std.proofs.Common.{◌≡◌, ℕ, ◌+◌, ◌≤◌, List, [], ◌∷◌, ◌++◌, length, sym, ap, ◌∙◌, subst, append_assoc, arith, length-append}
use Rattle.model.specs.Read.{Out, read, fault, bind, place}
use Rattle.model.specs.Laws.{Bytes}

-- what holds of whatever is read
abbrev pub Good : {A : Type 0} → (A → List ℕ → Type 0) → Out A → Type 0
Good C (read a r) = C a r
Good C (fault p) = Unit {0}

pub good_bind : {A B : Type 0} (C : A → List ℕ → Type 0) (D : B → List ℕ → Type 0) (o : Out A) (f : A → List ℕ → Out B) → Good C o → ((a : A) (r : List ℕ) → C a r → Good D (f a r)) → Good D (bind o f)
good_bind C D (read a r) f c h = h a r c
good_bind C D (fault p) f c h = tt

pub good_weaker : {A : Type 0} (C D : A → List ℕ → Type 0) (o : Out A) → Good C o → ((a : A) (r : List ℕ) → C a r → D a r) → Good D o
good_weaker C D (read a r) c h = h a r c
good_weaker C D (fault p) c h = tt

pub on : {A B : Type 0} (f : A → List ℕ → Out B) (o : Out A) {a : A} {r : List ℕ} → o ≡ read a r → bind o f ≡ f a r
on f o e = ap (λ x. bind x f) e

-- an item's bytes, what it is for its places to be right, and how deep it goes
pub record Format (A : Type 0) : Type 1 where
  pub bytes : A → List ℕ
  pub At : A → ℕ → Type 0
  pub depth : A → ℕ

-- `a` is what the bytes at p hold, `r` what comes behind it
pub record Found {A : Type 0} (F : Format A) (d p : ℕ) (bs : List ℕ) (a : A) (r : List ℕ) : Type 0 where
  pub is : bs ≡ F.bytes a ++ r
  pub at : F.At a p
  pub deep : F.depth a ≤ d

-- In a model of length n, `one` reads the items that are at most d deep, and no others.
pub record Exact {A : Type 0} (F : Format A) (n d : ℕ) (one : List ℕ → Out A) : Type 0 where
  pub reads : (p : ℕ) (bs : List ℕ) → Bytes bs → p + length bs ≡ n → Good (Found F d p bs) (one bs)
  pub writes : (p : ℕ) (a : A) (r : List ℕ) → p + length (F.bytes a ++ r) ≡ n → F.At a p → F.depth a ≤ d → one (F.bytes a ++ r) ≡ read a r

pub found : {A : Type 0} {F : Format A} {n d : ℕ} {one : List ℕ → Out A} → Exact F n d one → (p : ℕ) (bs : List ℕ) → Bytes bs → p + length bs ≡ n → (a : A) (r : List ℕ) → one bs ≡ read a r → Found F d p bs a r
found {F = F} {d = d} x p bs b l a r e = subst (Good (Found F d p bs)) e (x.reads p bs b l)

pub exact_same : {A : Type 0} {F : Format A} {n d : ℕ} (one two : List ℕ → Out A) → ((bs : List ℕ) → one bs ≡ two bs) → Exact F n d two → Exact F n d one
exact_same {F = F} {d = d} one two e x = record {
  reads = λ p bs b h. subst (Good (Found F d p bs)) (sym (e bs)) (x.reads p bs b h);
  writes = λ p a r h at deep. e (F.bytes a ++ r) ∙ x.writes p a r h at deep;
}

-- what is known of bytes goes over to those behind their first part
pub ends_behind : (n p : ℕ) (xs ys bs : List ℕ) → bs ≡ xs ++ ys → p + length bs ≡ n → (p + length xs) + length ys ≡ n
ends_behind n p xs ys bs e l = omega (arith, simp length-append at (ap length e))

pub bytes-behind : (xs ys bs : List ℕ) → bs ≡ xs ++ ys → Bytes bs → Bytes ys
bytes-behind xs ys bs e b = go xs (subst Bytes e b)
  where
    go : (zs : List ℕ) → Bytes (zs ++ ys) → Bytes ys
    go [] h = h
    go (z ∷ zs) h = go zs h.1

pub place_is : (n p : ℕ) (bs : List ℕ) → p + length bs ≡ n → place n bs ≡ p
place_is n p bs l = omega arith

pub joined : (xs ys zs rest bs : List ℕ) → bs ≡ xs ++ rest → rest ≡ ys ++ zs → bs ≡ (xs ++ ys) ++ zs
joined xs ys zs rest bs e f = e ∙ (ap (λ l. xs ++ l) f ∙ sym (append_assoc xs ys zs))
