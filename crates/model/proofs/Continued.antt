-- What stands before a fault can be continued. A reader is held to the bytes of what it reads: `Reads w C n one` says that
-- it takes w of a value that has C, or faults where a front of its bytes still begins w of some value that has C.
use Rattle.std.proofs.Common.{◌≡◌, ℕ, zero, suc, ◌+◌, ◌-◌, ◌*◌, ◌/◌, ◌%◌, ◌<◌, Bool, true, false, cond, eqb, ltb, leb, ◌⊎◌, List, [], ◌∷◌, ◌++◌, length, take, drop, replicate, is_some, Some, None, sym, refl, ap, ◌∙◌, subst, inl, inr, append_assoc, append-nil, arith, length-append}
use lib.ListN.{length-replicate}
use Rattle.std.proofs.lemmas.List.{take-append-drop, length-take-le}
use Rattle.std.proofs.lemmas.Bool.{leb-true, leb-false, ltb-true, eqb-false, cond_both}
use Rattle.model.specs.Encode.{field, stands, any, number as number_bytes, text as text_bytes}
use Rattle.model.specs.Read.{Out, read, fault, bind, place, number, text, fields, bit, count, rows, listed, optional, star_fields}
use Rattle.model.specs.Laws.{Bytes}
use Rattle.model.proofs.Exact.{bytes-behind}

-- a fault at p stands where `rest` begins; or the bytes ran out at p and `rest` is the last of them
abbrev pub Near : ℕ → List ℕ → ℕ → Type 0
Near n rest p = (p ≡ place n rest) ⊎ ((p ≡ n) × (length rest ≡ 1))

pub record Cut {A : Type 0} (w : A → List ℕ) (C : A → Type 0) (n : ℕ) (bs : List ℕ) (p : ℕ) : Type 0 where
  pub pre : List ℕ
  pub rest : List ℕ
  pub split : bs ≡ pre ++ rest
  pub near : Near n rest p
  pub value : A
  pub holds : C value
  pub more : List ℕ
  pub is : pre ++ more ≡ w value

pub record CanEnd {A : Type 0} (w : A → List ℕ) (C : A → Type 0) (done : List ℕ) : Type 0 where
  pub value : A
  pub holds : C value
  pub more : List ℕ
  pub is : done ++ more ≡ w value

abbrev pub Good : {A : Type 0} → (A → List ℕ) → (A → Type 0) → ℕ → List ℕ → Out A → Type 0
Good w C n bs (read a r) = (bs ≡ w a ++ r) × C a
Good w C n bs (fault p) = Cut w C n bs p

pub record Reads {A : Type 0} (w : A → List ℕ) (C : A → Type 0) (n : ℕ) (one : List ℕ → Out A) : Type 0 where
  pub default : A
  pub fine : C default
  pub at : (bs : List ℕ) → Bytes bs → Good w C n bs (one bs)

-- `done` is read, `left` is to be read
pub record Chain {A : Type 0} (w : A → List ℕ) (C : A → Type 0) (n : ℕ) (done left : List ℕ) (o : Out A) : Type 0 where
  pub ends : CanEnd w C done
  pub good : Good w C n (done ++ left) o

step_good : {A B : Type 0} (w : A → List ℕ) (C : A → Type 0) (W : B → List ℕ) (D : B → Type 0) (n : ℕ) (done left : List ℕ) (o : Out A) (f : A → List ℕ → Out B) → Bytes left → Good w C n left o → ((a : A) (r : List ℕ) → Bytes r → C a → Chain W D n (done ++ w a) r (f a r)) → Good W D n (done ++ left) (bind o f)
step_good w C W D n done left (read a r) f b g h =
    subst (λ x. Good W D n x (f a r)) (append_assoc done (w a) r ∙ ap (λ x. done ++ x) (sym g.0)) (h a r (bytes-behind (w a) r left g.0 b) g.1).good
step_good w C W D n done left (fault p) f b g h =
    let e : CanEnd W D (done ++ w g.value) = (h g.value [] tt g.holds).ends in
    record {
      pre = done ++ g.pre;
      rest = g.rest;
      split = ap (λ x. done ++ x) g.split ∙ sym (append_assoc done g.pre g.rest);
      near = g.near;
      value = e.value;
      holds = e.holds;
      more = g.more ++ e.more;
      is = append_assoc done g.pre (g.more ++ e.more) ∙ (ap (λ x. done ++ x) (sym (append_assoc g.pre g.more e.more) ∙ ap (λ x. x ++ e.more) g.is) ∙ (sym (append_assoc done (w g.value) e.more) ∙ e.is));
    }

pub step : {A B : Type 0} {w : A → List ℕ} {C : A → Type 0} {W : B → List ℕ} {D : B → Type 0} {n : ℕ} {done left : List ℕ} {one : List ℕ → Out A} {f : A → List ℕ → Out B} → Bytes left → Reads w C n one → ((a : A) (r : List ℕ) → Bytes r → C a → Chain W D n (done ++ w a) r (f a r)) → Chain W D n done left (bind (one left) f)
step {w = w} {C = C} {W = W} {D = D} {n = n} {done = done} {left = left} {one = one} {f = f} b g h =
    let e : CanEnd W D (done ++ w g.default) = (h g.default [] tt g.fine).ends in
    record {
      ends = record { value = e.value; holds = e.holds; more = w g.default ++ e.more; is = sym (append_assoc done (w g.default) e.more) ∙ e.is };
      good = step_good w C W D n done left (one left) f b (g.at left b) h;
    }

pub last : {B : Type 0} {W : B → List ℕ} {D : B → Type 0} {n : ℕ} {done left : List ℕ} (v : B) → D v → done ≡ W v → Chain W D n done left (read v left)
last {done = done} {left = left} v d e =
    record { ends = record { value = v; holds = d; more = []; is = append-nil done ∙ e }; good = (ap (λ x. x ++ left) e, d) }

bind-read : {A : Type 0} (o : Out A) → bind o read ≡ o
bind-read (read a r) = refl
bind-read (fault p) = refl

-- the last part gives the value itself
pub final : {A : Type 0} {w : A → List ℕ} {C : A → Type 0} {W : A → List ℕ} {D : A → Type 0} {n : ℕ} {done left : List ℕ} {one : List ℕ → Out A} → Bytes left → Reads w C n one → ((a : A) → C a → (done ++ w a ≡ W a) × D a) → Chain W D n done left (one left)
final {W = W} {D = D} {n = n} {done = done} {left = left} {one = one} b g h =
    subst (λ o. Chain W D n done left o) (bind-read (one left)) (step b g λ a r b c. last a (h a c).1 (h a c).0)

-- faults at the start
pub at-start : {A : Type 0} (w : A → List ℕ) (C : A → Type 0) (n : ℕ) (bs : List ℕ) (a : A) → C a → Cut w C n bs (place n bs)
at-start w C n bs a c = record { pre = []; rest = bs; split = refl; near = inl refl; value = a; holds = c; more = w a; is = refl }

-- faults where the bytes run out
pub at-end : {A : Type 0} (w : A → List ℕ) (C : A → Type 0) (n : ℕ) (bs more : List ℕ) (a : A) → C a → bs ++ more ≡ w a → Cut w C n bs n
at-end w C n bs more a c e = record { pre = bs; rest = []; split = sym (append-nil bs); near = inl (omega arith); value = a; holds = c; more = more; is = e }

abbrev pub Any : {A : Type 0} → A → Type 0
Any a = Unit {0}

two : (a b : ℕ) → b < 256 → number_bytes (a * 256 + b) ≡ a ∷ b ∷ []
two a b h = let q : (a * 256 + b) / 256 ≡ a = omega arith in let r : (a * 256 + b) % 256 ≡ b = omega arith in rw (q, r) refl

module _ (n : ℕ) where
  pub number_reads : Reads number_bytes Any n (number n)
  number_reads = record { default = 0; fine = tt; at = go }
    where
      go : (bs : List ℕ) → Bytes bs → Good number_bytes Any n bs (number n bs)
      go [] b = at-end number_bytes Any n [] (0 ∷ 0 ∷ []) 0 tt refl
      go (x ∷ []) b = at-end number_bytes Any n (x ∷ []) (0 ∷ []) (x * 256 + 0) tt (sym (two x 0 (omega arith)))
      go (x ∷ y ∷ bs) b = (ap (λ z. z ++ bs) (sym (two x y b.1.0)), tt)

  taken : (k : ℕ) → Reads (λ (s : List ℕ). s) (λ s. length s ≡ k) n (λ r. cond (leb k (length r)) (read (take k r) (drop k r)) (fault n))
  taken k = record { default = replicate k 0; fine = length-replicate k 0; at = λ bs b. cond_both (leb k (length bs)) (read (take k bs) (drop k bs)) (fault n) (Good (λ s. s) (λ s. length s ≡ k) n bs) (λ e. (sym (take-append-drop k bs), length-take-le k bs (leb-true k (length bs) e))) (λ e. at-end (λ s. s) (λ s. length s ≡ k) n bs (replicate (k - length bs) 0) (bs ++ replicate (k - length bs) 0) (rw (length-append, length-replicate) (omega (arith, leb-false k (length bs) e))) refl) }

  pub text_reads : Reads text_bytes Any n (text n)
  text_reads = record { default = []; fine = tt; at = λ bs b. (step {W = text_bytes} {D = Any} {done = []} b number_reads (λ k r b' c. final b' (taken k) λ s e. (rw e refl, tt))).good }

  -- a map of fields, of which 0 is one
  pub fields_reads : (limit : ℕ) → 0 < limit → Reads number_bytes (λ m. m < limit) n (fields n limit)
  fields_reads limit pos = record { default = 0; fine = pos; at = go }
    where
      go : (bs : List ℕ) → Bytes bs → Good number_bytes (λ m. m < limit) n bs (fields n limit bs)
      go [] b = at-end number_bytes (λ m. m < limit) n [] (0 ∷ 0 ∷ []) 0 pos refl
      go (x ∷ []) b = record { pre = []; rest = x ∷ []; split = refl; near = inr (refl, refl); value = 0; holds = pos; more = 0 ∷ 0 ∷ []; is = refl }
      go (x ∷ y ∷ bs) b =
          cond_both (ltb (x * 256 + y) limit) (read (x * 256 + y) bs) (fault (place n (x ∷ y ∷ bs))) (Good number_bytes (λ m. m < limit) n (x ∷ y ∷ bs))
          (λ e. (ap (λ z. z ++ bs) (sym (two x y b.1.0)), ltb-true (x * 256 + y) limit e))
          (λ e. at-start number_bytes (λ m. m < limit) n (x ∷ y ∷ bs) 0 pos)

  pub star_fields_reads : Reads number_bytes (λ m. (m < 4) × (bit m 1 ≡ false)) n (star_fields n)
  star_fields_reads = record { default = 0; fine = (omega arith, refl); at = go }
    where
      go : (bs : List ℕ) → Bytes bs → Good number_bytes (λ m. (m < 4) × (bit m 1 ≡ false)) n bs (star_fields n bs)
      go [] b = at-end number_bytes (λ m. (m < 4) × (bit m 1 ≡ false)) n [] (0 ∷ 0 ∷ []) 0 (omega arith, refl) refl
      go (x ∷ []) b = record { pre = []; rest = x ∷ []; split = refl; near = inr (refl, refl); value = 0; holds = (omega arith, refl); more = 0 ∷ 0 ∷ []; is = refl }
      go (x ∷ y ∷ bs) b =
          cond_both (ltb (x * 256 + y) 4) (read (x * 256 + y) bs) (fault (place n (x ∷ y ∷ bs))) (λ o. Good number_bytes (λ m. (m < 4) × (bit m 1 ≡ false)) n (x ∷ y ∷ bs) (bind o (λ m r. cond (bit m 1) (fault (place n (x ∷ y ∷ bs))) (read m r))))
          (λ e. cond_both (bit (x * 256 + y) 1) (fault (place n (x ∷ y ∷ bs))) (read (x * 256 + y) bs) (Good number_bytes (λ m. (m < 4) × (bit m 1 ≡ false)) n (x ∷ y ∷ bs))
          (λ f. at-start number_bytes (λ m. (m < 4) × (bit m 1 ≡ false)) n (x ∷ y ∷ bs) 0 (omega arith, refl))
          (λ f. (ap (λ z. z ++ bs) (sym (two x y b.1.0)), (ltb-true (x * 256 + y) 4 e, f))))
          (λ e. at-start number_bytes (λ m. (m < 4) × (bit m 1 ≡ false)) n (x ∷ y ∷ bs) 0 (omega arith, refl))

  pub count_reads : Reads number_bytes (λ k. 0 < k) n (count n)
  count_reads = record { default = 1; fine = omega arith; at = go }
    where
      go : (bs : List ℕ) → Bytes bs → Good number_bytes (λ k. 0 < k) n bs (count n bs)
      go [] b = at-end number_bytes (λ k. 0 < k) n [] (0 ∷ 1 ∷ []) 1 (omega arith) refl
      go (x ∷ []) b = at-end number_bytes (λ k. 0 < k) n (x ∷ []) (1 ∷ []) (x * 256 + 1) (omega arith) (sym (two x 1 (omega arith)))
      go (x ∷ y ∷ bs) b =
          cond_both (eqb (x * 256 + y) 0) (fault (place n (x ∷ y ∷ bs))) (read (x * 256 + y) bs) (Good number_bytes (λ k. 0 < k) n (x ∷ y ∷ bs))
          (λ e. at-start number_bytes (λ k. 0 < k) n (x ∷ y ∷ bs) 1 (omega arith))
          (λ e. (ap (λ z. z ++ bs) (sym (two x y b.1.0)), omega (arith, eqb-false (x * 256 + y) 0 e)))

  pub rows_reads : {A L : Type 0} (w : A → List ℕ) (w_l : L → List ℕ) (size : L → ℕ) (none : L) (add : A → L → L) (one : List ℕ → Out A) → Reads w Any n one → w_l none ≡ [] → size none ≡ 0 → ((a : A) (l : L) → w_l (add a l) ≡ w a ++ w_l l) → ((a : A) (l : L) → size (add a l) ≡ suc (size l)) → (k : ℕ) → Reads w_l (λ l. size l ≡ k) n (rows none add one k)
  rows_reads w w_l size none add one g wn sn wa sa zero = record { default = none; fine = sn; at = λ bs b. (ap (λ z. z ++ bs) (sym wn), sn) }
  rows_reads w w_l size none add one g wn sn wa sa (suc k) =
      let h = rows_reads w w_l size none add one g wn sn wa sa k in
      record {
        default = add g.default h.default;
        fine = sa g.default h.default ∙ ap suc h.fine;
        at = λ bs b. (step {done = []} b g (λ a r b' c. step b' h λ l s b'' e. last (add a l) (sa a l ∙ ap suc e) (sym (wa a l)))).good;
      }

  pub listed_reads : {A L : Type 0} (w : A → List ℕ) (w_l : L → List ℕ) (size : L → ℕ) (none : L) (add : A → L → L) (one : List ℕ → Out A) → Reads w Any n one → w_l none ≡ [] → size none ≡ 0 → ((a : A) (l : L) → w_l (add a l) ≡ w a ++ w_l l) → ((a : A) (l : L) → size (add a l) ≡ suc (size l)) → (b : Bool) → Reads (λ l. field (size l) (w_l l)) (λ l. stands (size l) ≡ b) n (listed n none add one b)
  listed_reads w w_l size none add one g wn sn wa sa true =
      record {
        default = add g.default none;
        fine = rw (sa g.default none) refl;
        at = λ bs b. (step {done = []} b count_reads (λ k r b' c. final b' (rows_reads w w_l size none add one g wn sn wa sa k) λ l e. standing k (w_l l) (size l) e c)).good;
      }
    where
      standing : (k : ℕ) (bs : List ℕ) (i : ℕ) → i ≡ k → 0 < k → (number_bytes k ++ bs ≡ field i bs) × (stands i ≡ true)
      standing k bs zero e c = absurd (omega arith)
      standing k bs (suc i) e c = (rw (sym e) refl, refl)
  listed_reads w w_l size none add one g wn sn wa sa false =
      record { default = none; fine = rw sn refl; at = λ bs b. (rw sn refl, rw sn refl) }

  pub optional_reads : {A : Type 0} (w : A → List ℕ) (one : List ℕ → Out A) → Reads w Any n one → (b : Bool) → Reads (any w) (λ o. is_some o ≡ b) n (optional one b)
  optional_reads w one g true =
      record { default = Some g.default; fine = refl; at = λ bs b. (step {done = []} b g (λ a r b' c. last (Some a) refl refl)).good }
  optional_reads w one g false = record { default = None; fine = refl; at = λ bs b. (refl, refl) }
