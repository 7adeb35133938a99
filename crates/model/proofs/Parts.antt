-- A record: a map of fields, a name, and the fields that the map says, one behind another.
use Rattle.std.proofs.Common.{◌≡◌, ℕ, suc, ◌+◌, ◌*◌, ◌≤◌, max, Bool, true, ◌↔◌, List, [], ◌∷◌, ◌++◌, length, sym, refl, ap, ◌∙◌, subst, append_assoc, arith}
use Rattle.model.specs.Tree.{Text}
use Rattle.model.specs.Encode as Encode
use Rattle.model.specs.Places.{first_field}
use Rattle.model.specs.Read.{Out, read, bind, place, bit, text}
use Rattle.model.specs.Laws.{Bytes}
use Rattle.model.proofs.Exact.{Good, good_bind, on, Format, Found, Exact, ends_behind, bytes-behind, joined, place_is}
use Rattle.model.proofs.Numbers.{ups, text_reads, text_writes}
use Rattle.model.proofs.Rows.{ExactIf}

-- How the fields of X are read on the way to a B: by the map, the value of the first field's bit, and what is done with them.
abbrev pub Body : Type 0 → Type 0 → Type 0
Body B X = ℕ → ℕ → (X → List ℕ → Out B) → List ℕ → Out B

-- the last field; a field and those behind it; the place of those behind it, which has no bytes
abbrev pub last : {B X : Type 0} → (Bool → List ℕ → Out X) → Body B X
last one m v k bs = bind (one (bit m v) bs) k

abbrev pub next : {B X Y : Type 0} → (Bool → List ℕ → Out X) → Body B Y → Body B (X × Y)
next one body m v k bs = bind (one (bit m v) bs) (λ x r. body m (2 * v) (λ y s. k (x, y) s) r)

abbrev pub marked : {B Y : Type 0} → ℕ → Body B Y → Body B (ℕ × Y)
marked n body m v k bs = body m v (λ y s. k (place n bs, y) s) bs

abbrev pub next_format : {X Y : Type 0} → Format X → Format Y → Format (X × Y)
next_format F G = record {
  bytes = λ z. F.bytes z.0 ++ G.bytes z.1;
  At = λ z p. F.At z.0 p × G.At z.1 (p + length (F.bytes z.0));
  depth = λ z. max (F.depth z.0) (G.depth z.1);
}

abbrev pub marked_format : {Y : Type 0} → Format Y → Format (ℕ × Y)
marked_format G = record { bytes = λ z. G.bytes z.1; At = λ z p. (z.0 ≡ p) × G.At z.1 p; depth = λ z. G.depth z.1 }

-- As Exact, of c fields.
pub record ExactFields {B X : Type 0} (F : Format X) (flags : X → List Bool) (c n d : ℕ) (body : Body B X) : Type 1 where
  pub size : (x : X) → length (flags x) ≡ c
  pub reads : (m v p : ℕ) (bs : List ℕ) → Bytes bs → p + length bs ≡ n → (k : X → List ℕ → Out B) (D : B → List ℕ → Type 0) → ((x : X) (r : List ℕ) → flags x ≡ ups m v c → Found F d p bs x r → Good D (k x r)) → Good D (body m v k bs)
  pub writes : (m v p : ℕ) (x : X) (r : List ℕ) → p + length (F.bytes x ++ r) ≡ n → flags x ≡ ups m v c → F.At x p → F.depth x ≤ d → (k : X → List ℕ → Out B) → body m v k (F.bytes x ++ r) ≡ k x r

abbrev head_or : Bool → List Bool → Bool
head_or b [] = b
head_or b (x ∷ xs) = x

abbrev tail_of : List Bool → List Bool
tail_of [] = []
tail_of (x ∷ xs) = xs

pub last_exact : {B X : Type 0} {F : Format X} {flag : X → Bool} {n d : ℕ} {one : Bool → List ℕ → Out X} → ExactIf F flag n d one → ExactFields {B = B} F (λ x. flag x ∷ []) 1 n d (last one)
last_exact {F = F} {flag = flag} {n = n} {d = d} {one = one} e = record {
  size = λ x. refl;
  reads = λ m v p bs b h k D go. good_bind _ D (one (bit m v) bs) k (e.reads (bit m v) p bs b h) (λ x r f. go x r (ap (λ t. t ∷ []) f.0) f.1);
  writes = λ m v p x r h fs at deep k. on k (one (bit m v) (F.bytes x ++ r)) (subst (λ t. one t (F.bytes x ++ r) ≡ read x r) (ap (head_or true) fs) (e.writes p x r h at deep));
}

pub next_exact : {B X Y : Type 0} {F : Format X} {G : Format Y} {flag : X → Bool} {flags : Y → List Bool} {c n d : ℕ} {one : Bool → List ℕ → Out X} {body : Body B Y} → ExactIf F flag n d one → ExactFields G flags c n d body → ExactFields {B = B} (next_format F G) (λ z. flag z.0 ∷ flags z.1) (suc c) n d (next one body)
next_exact {F = F} {G = G} {flag = flag} {flags = flags} {n = n} {d = d} {one = one} {body = body} e w = record {
  size = λ z. ap suc (w.size z.1);
  reads = λ m v p bs b h k D go.
      good_bind _ D (one (bit m v) bs) _ (e.reads (bit m v) p bs b h) λ x r f.
      w.reads m (2 * v) (p + length (F.bytes x)) r (bytes-behind (F.bytes x) r bs f.1.is b) (ends_behind n p (F.bytes x) r bs f.1.is h) (λ y s. k (x, y) s) D λ y s fs g.
      go (x, y) s (ap (λ t. t ∷ flags y) f.0 ∙ ap (λ t. bit m v ∷ t) fs) (record { is = joined (F.bytes x) (G.bytes y) s r bs f.1.is g.is; at = (f.1.at, g.at); deep = omega (arith, f.1.deep, g.deep) });
  writes = λ m v p z r h fs at deep k.
      let xs : List ℕ = F.bytes z.0 in
      let ys : List ℕ = G.bytes z.1 ++ r in
      let same : F.bytes z.0 ++ G.bytes z.1 ++ r ≡ F.bytes z.0 ++ (G.bytes z.1 ++ r) = append_assoc xs (G.bytes z.1) r in
      ap (next one body m v k) same
      ∙ (on (λ x t. body m (2 * v) (λ y s. k (x, y) s) t) (one (bit m v) (xs ++ ys)) (subst (λ t. one t (xs ++ ys) ≡ read z.0 ys) (ap (head_or true) fs) (e.writes p z.0 ys (rw same at h) at.0 (omega arith)))
      ∙ w.writes m (2 * v) (p + length xs) z.1 r (ends_behind n p xs ys (xs ++ G.bytes z.1 ++ r) same h) (ap tail_of fs) at.1 (omega arith) (λ y s. k (z.0, y) s));
}

pub marked_exact : {B Y : Type 0} {G : Format Y} {flags : Y → List Bool} {c n d : ℕ} {body : Body B Y} → ExactFields G flags c n d body → ExactFields {B = B} (marked_format G) (λ z. flags z.1) c n d (marked n body)
marked_exact {G = G} {n = n} w = record {
  size = λ z. w.size z.1;
  reads = λ m v p bs b h k D go. w.reads m v p bs b h _ D (λ y s fs g. go (place n bs, y) s fs (record { is = g.is; at = (place_is n p bs h, g.at); deep = g.deep }));
  writes = λ m v p z r h fs at deep k. w.writes m v p z.1 r h fs at.1 deep (λ y s. k (place n (G.bytes z.1 ++ r), y) s) ∙ ap (λ q. k (q, z.1) r) (place_is n p (G.bytes z.1 ++ r) h ∙ sym at.0);
}

-- `maps` reads the map of a record with c fields, the first of them at the bit of value v
pub record ExactMap (full : List Bool → List Bool) (c v : ℕ) (maps : List ℕ → Out ℕ) : Type 0 where
  pub reads : (bs : List ℕ) → Bytes bs → Good (λ m r. (bs ≡ Encode.number m ++ r) × (Encode.bits (full (ups m v c)) ≡ m)) (maps bs)
  pub writes : (fs : List Bool) (r : List ℕ) → length fs ≡ c → maps (Encode.number (Encode.bits (full fs)) ++ r) ≡ read (Encode.bits (full fs)) r
  pub picks : (fs : List Bool) → length fs ≡ c → fs ≡ ups (Encode.bits (full fs)) v c

-- a B is made of its place, its name and its fields, and R writes it so
pub record Made {B X : Type 0} (F : Format X) (flags : X → List Bool) (d : ℕ) (R : Format B) (e : ℕ) (make : ℕ → Text → X → B) : Type 1 where
  pub ind : (P : B → Type 0) → ((q : ℕ) (s : Text) (x : X) → P (make q s x)) → (b : B) → P b
  pub bytes : (q : ℕ) (s : Text) (x : X) → R.bytes (make q s x) ≡ Encode.header (flags x) s ++ F.bytes x
  pub at : (q : ℕ) (s : Text) (x : X) (p : ℕ) → R.At (make q s x) p ↔ ((q ≡ p) × F.At x (first_field p s))
  pub depth : (q : ℕ) (s : Text) (x : X) → (R.depth (make q s x) ≤ e) ↔ (F.depth x ≤ d)

abbrev pub framed : {B X : Type 0} → ℕ → ℕ → (List ℕ → Out ℕ) → Body B X → (ℕ → Text → X → B) → List ℕ → Out B
framed n v maps body make bs = bind (maps bs) (λ m r0. bind (text n r0) (λ s r1. body m v (λ x r. read (make (place n bs) s x) r) r1))

module _ {B X : Type 0} {F : Format X} {flags : X → List Bool} {R : Format B} (full : List Bool → List Bool) (c n d e v : ℕ) (maps : List ℕ → Out ℕ) (body : Body B X) (make : ℕ → Text → X → B) (a : ExactMap full c v maps) (w : ExactFields F flags c n d body) (g : Made F (λ x. full (flags x)) d R e make) where
  framed_reads : (p : ℕ) (bs : List ℕ) → Bytes bs → p + length bs ≡ n → Good (Found R e p bs) (framed n v maps body make bs)
  framed_reads p bs b h =
      good_bind _ _ (maps bs) _ (a.reads bs b) λ m r0 e0.
      let b0 : Bytes r0 = bytes-behind (Encode.number m) r0 bs e0.0 b in
      good_bind _ _ (text n r0) _ (text_reads n r0 b0) λ s r1 e1.
      let start : bs ≡ Encode.number m ++ Encode.text s ++ r1 = joined (Encode.number m) (Encode.text s) r1 r0 bs e0.0 e1 in
      w.reads m v (first_field p s) r1 (bytes-behind (Encode.text s) r1 r0 e1 b0) (omega (arith, ends_behind n p (Encode.number m ++ Encode.text s) r1 bs start h)) _ (Found R e p bs) λ x r fs f.
      let map : Encode.bits (full (flags x)) ≡ m = ap (λ t. Encode.bits (full t)) fs ∙ e0.1 in
      record {
        is = rw (g.bytes (place n bs) s x, map) (joined (Encode.number m ++ Encode.text s) (F.bytes x) r r1 bs start f.is);
        at = (g.at (place n bs) s x p).1 (place_is n p bs h, f.at);
        deep = (g.depth (place n bs) s x).1 f.deep;
      }

  framed_writes : (q : ℕ) (s : Text) (x : X) (p : ℕ) (r : List ℕ) → p + length (R.bytes (make q s x) ++ r) ≡ n → R.At (make q s x) p → R.depth (make q s x) ≤ e → framed n v maps body make (R.bytes (make q s x) ++ r) ≡ read (make q s x) r
  framed_writes q s x p r h at deep =
      let m : ℕ = Encode.bits (full (flags x)) in
      let rest : List ℕ = F.bytes x ++ r in
      let all : List ℕ = Encode.number m ++ (Encode.text s ++ rest) in
      let same : R.bytes (make q s x) ++ r ≡ all = rw (g.bytes q s x) (ap (λ t. Encode.number m ++ (Encode.number (length s) ++ t)) (append_assoc s (F.bytes x) r)) in
      let ends : p + length all ≡ n = rw same at h in
      let k : X → List ℕ → Out B = λ x r. read (make (place n all) s x) r in
      ap (framed n v maps body make) same
      ∙ (on (λ m r0. bind (text n r0) (λ s r1. body m v (λ x r. read (make (place n all) s x) r) r1)) (maps all) (a.writes (flags x) (Encode.text s ++ rest) (w.size x))
      ∙ (on (λ s r1. body m v (λ x r. read (make (place n all) s x) r) r1) (text n (Encode.text s ++ rest)) (text_writes n s rest)
      ∙ (w.writes m v (first_field p s) x r (omega (arith, ends_behind n p (Encode.number m ++ Encode.text s) rest all refl ends)) (a.picks (flags x) (w.size x)) ((g.at q s x p).0 at).1 ((g.depth q s x).0 deep) k
      ∙ ap (λ t. read (make t s x) r) (place_is n p all ends ∙ sym ((g.at q s x p).0 at).0))))

  pub framed_exact : Exact R n e (framed n v maps body make)
  framed_exact = record { reads = framed_reads; writes = λ p y r. g.ind (λ y. p + length (R.bytes y ++ r) ≡ n → R.At y p → R.depth y ≤ e → framed n v maps body make (R.bytes y ++ r) ≡ read y r) (λ q s x. framed_writes q s x p r) y }
