-- Numbers, texts, maps of fields and counts.
use Rattle.std.proofs.Common.{◌≡◌, ℕ, zero, suc, ◌+◌, ◌*◌, ◌/◌, ◌%◌, ◌^◌, ◌<◌, Bool, true, false, cond, eqb, ltb, leb, List, [], ◌∷◌, ◌++◌, length, take, drop, sym, refl, ap, ◌∙◌, mul_comm, div-add-mod', div-one, arith, length-append}
use lib.Arith.{digits_div, digits_mod}
use native.Mathlib.Nat.{div-div-eq-div-mul, pow-succ'}
use Rattle.std.proofs.lemmas.List.{take-append-drop, length-take-le, take_at, drop_at}
use Rattle.std.proofs.lemmas.Bool.{cond_both, cond-true, cond-false, leb-true, le-leb, ltb-true, lt-ltb, eqb-true, eqb-false, eq-eqb, ne_eqb}
use Rattle.model.specs.Read.{read, fault, place, number, text, fields, bit, count}
use Rattle.model.specs.Laws.{Bytes}
use Rattle.model.specs.Encode as Encode
use Rattle.model.proofs.Exact.{Good, good_bind, on}

pub number_reads : (n : ℕ) (bs : List ℕ) → Bytes bs → Good (λ k r. bs ≡ Encode.number k ++ r) (number n bs)
number_reads n [] b = tt
number_reads n (x ∷ []) b = tt
number_reads n (x ∷ y ∷ bs) b = rw (digits_div x b.1.0, digits_mod x b.1.0) refl

pub number_writes : (n k : ℕ) (r : List ℕ) → number n (Encode.number k ++ r) ≡ read k r
number_writes n k r = ap (λ x. read x r) (div-add-mod' k 256)

pub text_reads : (n : ℕ) (bs : List ℕ) → Bytes bs → Good (λ s r. bs ≡ Encode.text s ++ r) (text n bs)
text_reads n bs b = good_bind _ _ (number n bs) _ (number_reads n bs b) λ k r e.
    cond_both (leb k (length r)) _ _ (Good (λ s t. bs ≡ Encode.text s ++ t)) (λ h. e ∙ rw (length-take-le k r (leb-true k (length r) h), take-append-drop k r) refl) (λ h. tt)

pub text_writes : (n : ℕ) (s r : List ℕ) → text n (Encode.text s ++ r) ≡ read s r
text_writes n s r =
    on (λ k t. cond (leb k (length t)) (read (take k t) (drop k t)) (fault n)) (number n (Encode.text s ++ r)) (number_writes n (length s) (s ++ r))
    ∙ (cond-true (leb (length s) (length (s ++ r))) _ _ (le-leb (length s) (length (s ++ r)) (simp length-append (omega arith))) ∙ rw (take_at s r (length s) refl, drop_at s r (length s) refl) refl)

-- the bits of m, from that of value v on
abbrev pub ups : ℕ → ℕ → ℕ → List Bool
ups m v zero = []
ups m v (suc c) = bit m v ∷ ups m (2 * v) c

bit-number : (x : ℕ) → cond (eqb (x % 2) 1) 1 0 ≡ x % 2
bit-number x = cond_both (eqb (x % 2) 1) 1 0 (λ y. y ≡ x % 2) (λ e. omega (arith, eqb-true (x % 2) 1 e)) (λ e. let h : x % 2 ≡ 1 → ⊥ = eqb-false (x % 2) 1 e in omega arith)

half : (m v : ℕ) → m / (2 * v) ≡ m / v / 2
half m v = ap (λ x. m / x) (mul_comm 2 v) ∙ sym (div-div-eq-div-mul m v 2)

other_half : (m v : ℕ) → m / (2 * v) ≡ m / 2 / v
other_half m v = sym (div-div-eq-div-mul m 2 v)

bits_above : (m v c : ℕ) → m / v < 2 ^ c → Encode.bits (ups m v c) ≡ m / v
bits_above m v zero h = omega arith
bits_above m v (suc c) h =
    let lower : m / v / 2 < 2 ^ c = omega (arith, pow-succ' 2 c) in
    let rest : Encode.bits (ups m (2 * v) c) ≡ m / (2 * v) = bits_above m (2 * v) c (rw (half m v) lower) in
    omega (arith, bit-number (m / v), half m v)

-- a map is the number of its bits
pub bits_ups : (m c : ℕ) → m < 2 ^ c → Encode.bits (ups m 1 c) ≡ m
bits_ups m c h = bits_above m 1 c (rw div-one h) ∙ div-one m

higher : (b : Bool) (x : ℕ) → (cond b 1 0 + 2 * x) / 2 ≡ x
higher true x = omega arith
higher false x = omega arith

pub lowest : (b : Bool) (x : ℕ) → bit (cond b 1 0 + 2 * x) 1 ≡ b
lowest true x = eq-eqb ((1 + 2 * x) / 1 % 2) 1 (rw div-one (omega arith))
lowest false x = ne_eqb ((0 + 2 * x) / 1 % 2) 1 (rw div-one (omega arith))

pub ups_higher : (b : Bool) (x v c : ℕ) → ups (cond b 1 0 + 2 * x) (2 * v) c ≡ ups x v c
ups_higher b x v zero = refl
ups_higher b x v (suc c) = rw (ups_higher b x (2 * v) c, other_half (cond b 1 0 + 2 * x) v, higher b x) refl

pub ups_bits : (fs : List Bool) → ups (Encode.bits fs) 1 (length fs) ≡ fs
ups_bits [] = refl
ups_bits (b ∷ fs) = rw (lowest b (Encode.bits fs), ups_higher b (Encode.bits fs) 1 (length fs), ups_bits fs) refl

pub bits_below : (fs : List Bool) → Encode.bits fs < 2 ^ length fs
bits_below [] = omega arith
bits_below (true ∷ fs) = omega (arith, bits_below fs, pow-succ' 2 (length fs))
bits_below (false ∷ fs) = omega (arith, bits_below fs, pow-succ' 2 (length fs))

-- the map of a record with c fields
pub fields_reads : (n c : ℕ) (bs : List ℕ) → Bytes bs → Good (λ m r. (bs ≡ Encode.number m ++ r) × (m < 2 ^ c)) (fields n (2 ^ c) bs)
fields_reads n c bs b = good_bind _ _ (number n bs) _ (number_reads n bs b) λ m r e.
    cond_both (ltb m (2 ^ c)) _ _ (Good (λ m r. (bs ≡ Encode.number m ++ r) × (m < 2 ^ c))) (λ h. (e, ltb-true m (2 ^ c) h)) (λ h. tt)

pub fields_writes : (n c m : ℕ) (r : List ℕ) → m < 2 ^ c → fields n (2 ^ c) (Encode.number m ++ r) ≡ read m r
fields_writes n c m r h =
    on (λ k t. cond (ltb k (2 ^ c)) (read k t) (fault (place n (Encode.number m ++ r)))) (number n (Encode.number m ++ r)) (number_writes n m r) ∙ cond-true (ltb m (2 ^ c)) _ _ (lt-ltb m (2 ^ c) h)

pub count_reads : (n : ℕ) (bs : List ℕ) → Bytes bs → Good (λ k r. (bs ≡ Encode.number k ++ r) × (k ≡ 0 → ⊥)) (count n bs)
count_reads n bs b = good_bind _ _ (number n bs) _ (number_reads n bs b) λ k r e.
    cond_both (eqb k 0) _ _ (Good (λ k r. (bs ≡ Encode.number k ++ r) × (k ≡ 0 → ⊥))) (λ h. tt) (λ h. (e, eqb-false k 0 h))

pub count_writes : (n k : ℕ) (r : List ℕ) → count n (Encode.number (suc k) ++ r) ≡ read (suc k) r
count_writes n k r =
    on (λ j t. cond (eqb j 0) (fault (place n (Encode.number (suc k) ++ r))) (read j t)) (number n (Encode.number (suc k) ++ r)) (number_writes n (suc k) r) ∙ cond-false (eqb (suc k) 0) _ _ (ne_eqb (suc k) 0 (omega arith))
