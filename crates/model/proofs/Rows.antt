-- Lists of items, and the fields that may stand or not.
use Rattle.std.proofs.Common.{◌≡◌, ℕ, zero, suc, ◌+◌, ◌≤◌, max, Bool, true, false, List, [], ◌++◌, length, is_some, Some, None, Option, refl, ap, ◌∙◌, subst, append_assoc, arith}
use Rattle.model.specs.Tree.{if_any}
use Rattle.model.specs.Encode as Encode
use Rattle.model.specs.Places.{any_at, first_item}
use Rattle.model.specs.Read.{Out, read, bind, count, rows, listed, optional}
use Rattle.model.specs.Laws.{Bytes}
use Rattle.model.proofs.Exact.{Good, good_bind, good_weaker, on, Format, Found, Exact, ends_behind, bytes-behind, joined}
use Rattle.model.proofs.Numbers.{count_reads, count_writes}

-- L is a type of lists of A, made by `none` and `more`, and G writes one as F writes its items, one behind another
pub record Lists {A L : Type 0} (F : Format A) (G : Format L) (size : L → ℕ) (none : L) (more : A → L → L) : Type 1 where
  pub ind : (P : L → Type 0) → P none → ((a : A) (l : L) → P l → P (more a l)) → (l : L) → P l
  pub size_none : size none ≡ 0
  pub size_more : (a : A) (l : L) → size (more a l) ≡ suc (size l)
  pub bytes-none : G.bytes none ≡ []
  pub bytes-more : (a : A) (l : L) → G.bytes (more a l) ≡ F.bytes a ++ G.bytes l
  pub at_none : (p : ℕ) → G.At none p
  pub at_more : (a : A) (l : L) (p : ℕ) → F.At a p → G.At l (p + length (F.bytes a)) → G.At (more a l) p
  pub at-parts : (a : A) (l : L) (p : ℕ) → G.At (more a l) p → F.At a p × G.At l (p + length (F.bytes a))
  pub depth_none : G.depth none ≡ 0
  pub depth_more : (a : A) (l : L) → G.depth (more a l) ≡ max (F.depth a) (G.depth l)

abbrev pub FoundRows : {L : Type 0} → Format L → (L → ℕ) → ℕ → ℕ → ℕ → List ℕ → L → List ℕ → Type 0
FoundRows G size d k p bs l r = (size l ≡ k) × Found G d p bs l r

-- a list field: a count and the items, or nothing
abbrev pub field_format : {L : Type 0} → Format L → (L → ℕ) → Format L
field_format G size = record { bytes = λ l. Encode.field (size l) (G.bytes l); At = λ l p. G.At l (first_item p); depth = G.depth }

abbrev pub any_format : {A : Type 0} → Format A → Format (Option A)
any_format F = record { bytes = Encode.any F.bytes; At = any_at F.At; depth = if_any F.depth }

-- As Exact, of a reader that is told whether the item stands.
pub record ExactIf {A : Type 0} (F : Format A) (flag : A → Bool) (n d : ℕ) (one : Bool → List ℕ → Out A) : Type 0 where
  pub reads : (b : Bool) (p : ℕ) (bs : List ℕ) → Bytes bs → p + length bs ≡ n → Good (λ a r. (flag a ≡ b) × Found F d p bs a r) (one b bs)
  pub writes : (p : ℕ) (a : A) (r : List ℕ) → p + length (F.bytes a ++ r) ≡ n → F.At a p → F.depth a ≤ d → one (flag a) (F.bytes a ++ r) ≡ read a r

stands-some : (k : ℕ) → (k ≡ 0 → ⊥) → Encode.stands k ≡ true
stands-some zero h = absurd (h refl)
stands-some (suc k) h = refl

field-some : (k : ℕ) (bs : List ℕ) → (k ≡ 0 → ⊥) → Encode.field k bs ≡ Encode.number k ++ bs
field-some zero bs h = absurd (h refl)
field-some (suc k) bs h = refl

module _ {A L : Type 0} {F : Format A} {G : Format L} {size : L → ℕ} {none : L} {more : A → L → L} (n d : ℕ) (one : List ℕ → Out A) (ls : Lists F G size none more) (x : Exact F n d one) where
  pub rows_reads : (k p : ℕ) (bs : List ℕ) → Bytes bs → p + length bs ≡ n → Good (FoundRows G size d k p bs) (rows none more one k bs)
  rows_reads zero p bs b h = (ls.size_none, record { is = rw ls.bytes-none refl; at = ls.at_none p; deep = rw ls.depth_none (omega arith) })
  rows_reads (suc k) p bs b h =
      good_bind (Found F d p bs) _ (one bs) _ (x.reads p bs b h) λ a r f.
      good_bind _ (FoundRows G size d (suc k) p bs) (rows none more one k r) _ (rows_reads k (p + length (F.bytes a)) r (bytes-behind (F.bytes a) r bs f.is b) (ends_behind n p (F.bytes a) r bs f.is h)) λ l s g. (
        ls.size_more a l ∙ ap suc g.0,
        record {
          is = rw (ls.bytes-more a l) (joined (F.bytes a) (G.bytes l) s r bs f.is g.1.is);
          at = ls.at_more a l p f.at g.1.at;
          deep = rw (ls.depth_more a l) (omega (arith, f.deep, g.1.deep));
        },
      )

  pub rows_writes : (l : L) (p : ℕ) (r : List ℕ) → p + length (G.bytes l ++ r) ≡ n → G.At l p → G.depth l ≤ d → rows none more one (size l) (G.bytes l ++ r) ≡ read l r
  rows_writes = ls.ind (λ l. (p : ℕ) (r : List ℕ) → p + length (G.bytes l ++ r) ≡ n → G.At l p → G.depth l ≤ d → rows none more one (size l) (G.bytes l ++ r) ≡ read l r)
      (λ p r h at deep. rw (ls.size_none, ls.bytes-none) refl)
      (λ a l rest p r h at deep.
      let e : G.bytes (more a l) ++ r ≡ F.bytes a ++ (G.bytes l ++ r) = rw (ls.bytes-more a l) (append_assoc (F.bytes a) (G.bytes l) r) in
      let deeps : max (F.depth a) (G.depth l) ≤ d = rw (ls.depth_more a l) at deep in
      rw (ls.size_more a l, e) (
      on (λ a t. bind (rows none more one (size l) t) (λ l s. read (more a l) s)) (one (F.bytes a ++ (G.bytes l ++ r))) (x.writes p a (G.bytes l ++ r) (rw e at h) (ls.at-parts a l p at).0 (omega arith))
      ∙ on (λ l s. read (more a l) s) (rows none more one (size l) (G.bytes l ++ r)) (rest (p + length (F.bytes a)) r (ends_behind n p (F.bytes a) (G.bytes l ++ r) (G.bytes (more a l) ++ r) e h) (ls.at-parts a l p at).1 (omega arith))))

  size_zero : (l : L) → size l ≡ 0 → none ≡ l
  size_zero = ls.ind (λ l. size l ≡ 0 → none ≡ l) (λ e. refl) (λ a l h e. absurd (omega (arith, ls.size_more a l)))

  listed_reads : (b : Bool) (p : ℕ) (bs : List ℕ) → Bytes bs → p + length bs ≡ n → Good (λ l r. (Encode.stands (size l) ≡ b) × Found (field_format G size) d p bs l r) (listed n none more one b bs)
  listed_reads true p bs b h =
      good_bind _ _ (count n bs) _ (count_reads n bs b) λ k r e.
      good_weaker (FoundRows G size d k (first_item p) r) _ (rows none more one k r) (rows_reads k (first_item p) r (bytes-behind (Encode.number k) r bs e.0 b) (ends_behind n p (Encode.number k) r bs e.0 h)) λ l s f. (
        ap Encode.stands f.0 ∙ stands-some k e.1,
        record {
          is = rw (f.0, field-some k (G.bytes l) e.1) (e.0 ∙ ap (λ t. Encode.number k ++ t) f.1.is);
          at = f.1.at;
          deep = f.1.deep;
        },
      )
  listed_reads false p bs b h = (ap Encode.stands ls.size_none, record { is = rw ls.size_none refl; at = ls.at_none (first_item p); deep = rw ls.depth_none (omega arith) })

  listed_writes : (k : ℕ) (l : L) → size l ≡ k → (p : ℕ) (r : List ℕ) → p + length (Encode.field k (G.bytes l) ++ r) ≡ n → G.At l (first_item p) → G.depth l ≤ d → listed n none more one (Encode.stands k) (Encode.field k (G.bytes l) ++ r) ≡ read l r
  listed_writes zero l e p r h at deep = ap (λ x. read x r) (size_zero l e)
  listed_writes (suc k) l e p r h at deep =
      on (rows none more one) (count n (Encode.number (suc k) ++ (G.bytes l ++ r))) (count_writes n k (G.bytes l ++ r))
      ∙ subst (λ j. rows none more one j (G.bytes l ++ r) ≡ read l r) e (rows_writes l (first_item p) r (ends_behind n p (Encode.number (suc k)) (G.bytes l ++ r) _ refl h) at deep)

  pub listed_exact : ExactIf (field_format G size) (λ l. Encode.stands (size l)) n d (listed n none more one)
  listed_exact = record { reads = listed_reads; writes = λ p l r. listed_writes (size l) l refl p r }

pub optional_exact : {A : Type 0} {F : Format A} (n d : ℕ) (one : List ℕ → Out A) → Exact F n d one → ExactIf (any_format F) is_some n d (optional one)
optional_exact {F = F} n d one x = record { reads = reads; writes = writes }
  where
    reads : (b : Bool) (p : ℕ) (bs : List ℕ) → Bytes bs → p + length bs ≡ n → Good (λ a r. (is_some a ≡ b) × Found (any_format F) d p bs a r) (optional one b bs)
    reads true p bs b h = good_bind _ _ (one bs) _ (x.reads p bs b h) (λ a r f. (refl, record { is = f.is; at = f.at; deep = f.deep }))
    reads false p bs b h = (refl, record { is = refl; at = tt; deep = omega arith })

    writes : (p : ℕ) (a : _) (r : List ℕ) → p + length ((any_format F).bytes a ++ r) ≡ n → (any_format F).At a p → (any_format F).depth a ≤ d → optional one (is_some a) ((any_format F).bytes a ++ r) ≡ read a r
    writes p None r h at deep = refl
    writes p (Some a) r h at deep = on (λ a r. read (Some a) r) (one (F.bytes a ++ r)) (x.writes p a r h at deep)
