-- The tests on numbers tell what the rules on numbers say.
use Rattle.std.proofs.Common.{◌≡◌, ℕ, suc, ◌+◌, ◌<◌, true, false, eqb, ◌⊎◌, List, [], ◌∷◌, ◌++◌, length, take, drop, Decides, sym, refl, ap, ◌∙◌, subst, inl, inr, arith}
use Rattle.std.specs.List.{AllByRecursion}
use mathlib.Core.Bool.{false≢true}
use Rattle.std.proofs.lemmas.List.{nil_from_length, length-append, take_at}
use Rattle.text.proofs.Each.{each_weaker}
use Rattle.std.proofs.lemmas.Bool.{and_from, and_parts, cases_Bool, cond-false, eqb-true, eqb-false, eq-eqb, ne_eqb, lt-ltb, ltb-true}
use Rattle.text.specs.Names.{digit, Digit}
use Rattle.text.specs.Numbers.{unsigned, digits, some_digits, natural, int, dot_at_of, fractional, float}
use Rattle.text.specs.Numbers.{Sign, SomeDigits, Positive, Int, Float}
use Rattle.text.proofs.NamesDecided.{digit-Decides, every-Decides}

-- digits

pub digits-Decides : (s : List ℕ) → Decides (digits s) (AllByRecursion Digit s)
digits-Decides s = every-Decides digit Digit digit-Decides s

pub some_digits-Decides : (s : List ℕ) → Decides (some_digits s) (SomeDigits s)
some_digits-Decides [] = (λ e. absurd (false≢true e), λ p. absurd (omega (arith, ap length p.is)))
some_digits-Decides (b ∷ bs) = (
  λ e. record { first = b; more = bs; is = refl; all = (digits-Decides (b ∷ bs)).0 e },
  λ p. (digits-Decides (b ∷ bs)).1 (subst (AllByRecursion Digit) (sym p.is) p.all),
)

-- a sign

sign_of : {C : Type 0} (s : List ℕ) → ((sign : List ℕ) → Sign sign → s ≡ sign ++ unsigned s → C) → C
sign_of [] k = k [] (inl refl) refl
sign_of (b ∷ bs) k =
    elim (cases_Bool (eqb b 45)) [
      | inl t ↦ k (45 ∷ []) (inr refl) (rw t (ap (λ x. x ∷ bs) (eqb-true b 45 t)))
      | inr t ↦ k [] (inl refl) (rw t refl)
    ]

unsigned_is : (s sign m : List ℕ) (b : ℕ) (bs : List ℕ) → m ≡ b ∷ bs → (b ≡ 45 → ⊥) → Sign sign → s ≡ sign ++ m → unsigned s ≡ m
unsigned_is s sign m b bs e ne (inl z) is =
    ap unsigned (is ∙ (ap (λ x. x ++ m) z ∙ e)) ∙ (cond-false (eqb b 45) bs (b ∷ bs) (ne_eqb b 45 ne) ∙ sym e)
unsigned_is s sign m b bs e ne (inr z) is = ap unsigned (is ∙ ap (λ x. x ++ m) z)

-- integers

natural-Decides : (s : List ℕ) → Decides (natural s) ((s ≡ 48 ∷ []) ⊎ Positive s)
natural-Decides [] = (λ e. absurd (false≢true e), λ p. absurd (none p))
  where
    none : (◌≡◌ {A = List ℕ} [] (48 ∷ [])) ⊎ Positive [] → ⊥
    none (inl e) = omega (arith, ap length e)
    none (inr p) = omega (arith, ap length p.is)
natural-Decides (b ∷ bs) =
    elim (cases_Bool (eqb b 48)) [
      | inl t ↦ (λ e. inl (zero-from t (rw t at e)), λ p. rw t (alone t p))
      | inr t ↦ (λ e. inr (positive t ((digits-Decides (b ∷ bs)).0 (rw t at e))), λ p. rw t ((digits-Decides (b ∷ bs)).1 (each t p)))
    ]
  where
    zero-from : eqb b 48 ≡ true → eqb (length bs) 0 ≡ true → b ∷ bs ≡ 48 ∷ []
    zero-from t e = ap (λ x. x ∷ bs) (eqb-true b 48 t) ∙ ap (λ x. 48 ∷ x) (nil_from_length bs (eqb-true (length bs) 0 e))

    alone : eqb b 48 ≡ true → (b ∷ bs ≡ 48 ∷ []) ⊎ Positive (b ∷ bs) → eqb (length bs) 0 ≡ true
    alone t (inl e) = eq-eqb (length bs) 0 (omega (arith, ap length e))
    alone t (inr p) = let f : p.first ≡ b = cc p.is in absurd (omega (arith, p.not_zero, eqb-true b 48 t))

    positive : eqb b 48 ≡ false → AllByRecursion Digit (b ∷ bs) → Positive (b ∷ bs)
    positive t h = let ne : b ≡ 48 → ⊥ = eqb-false b 48 t in record { first = b; more = bs; is = refl; not_zero = (omega (arith, h.0), h.0.1); all = h.1 }

    each : eqb b 48 ≡ false → (b ∷ bs ≡ 48 ∷ []) ⊎ Positive (b ∷ bs) → AllByRecursion Digit (b ∷ bs)
    each t (inl e) = let f : b ≡ 48 = cc e in absurd (eqb-false b 48 t f)
    each t (inr p) = subst (AllByRecursion Digit) (sym p.is) ((omega (arith, p.not_zero), p.not_zero.1), p.all)

pub int-Decides : (s : List ℕ) → Decides (int s) (Int s)
unfolding int
int-Decides s = (reads, writes)
  where
    reads : natural (unsigned s) ≡ true → Int s
    reads e = sign_of s (λ sign h is. record { sign = sign; magnitude = unsigned s; is = is; signed = h; counts = (natural-Decides (unsigned s)).0 e })

    unsigned-here : (p : Int s) → (p.magnitude ≡ 48 ∷ []) ⊎ Positive p.magnitude → unsigned s ≡ p.magnitude
    unsigned-here p (inl e) = unsigned_is s p.sign p.magnitude 48 [] e (λ z. omega arith) p.signed p.is
    unsigned-here p (inr q) = unsigned_is s p.sign p.magnitude q.first q.more q.is (λ z. omega (arith, q.not_zero)) p.signed p.is

    writes : Int s → natural (unsigned s) ≡ true
    writes p = ap natural (unsigned-here p p.counts) ∙ (natural-Decides p.magnitude).1 p.counts

-- floats

dot_splits : (s : List ℕ) → dot_at_of s < length s → s ≡ take (dot_at_of s) s ++ 46 ∷ drop (suc (dot_at_of s)) s
dot_splits [] l = absurd (omega arith)
dot_splits (b ∷ bs) l =
    elim (cases_Bool (eqb b 46)) [
      | inl t ↦ rw t (ap (λ x. x ∷ bs) (eqb-true b 46 t))
      | inr t ↦ rw t (ap (λ x. b ∷ x) (dot_splits bs (let z : suc (dot_at_of bs) < suc (length bs) = rw t at l in omega arith)))
    ]

pub dot_at-after : (s rest : List ℕ) → AllByRecursion (λ b. b ≡ 46 → ⊥) s → dot_at_of (s ++ 46 ∷ rest) ≡ length s
dot_at-after [] rest h = refl
dot_at-after (b ∷ bs) rest h = rw (ne_eqb b 46 h.0) (ap suc (dot_at-after bs rest h.1))

digit_no_dot : (b : ℕ) → Digit b → b ≡ 46 → ⊥
digit_no_dot b h e = omega arith

fractional-from : (s whole fraction : List ℕ) → s ≡ whole ++ 46 ∷ fraction → SomeDigits whole → SomeDigits fraction → fractional s ≡ true
fractional-from s whole fraction is w f =
    let no_dots : AllByRecursion (λ b. b ≡ 46 → ⊥) whole = each_weaker Digit (λ b. b ≡ 46 → ⊥) digit_no_dot whole (subst (AllByRecursion Digit) (sym w.is) w.all) in
    let at : dot_at_of s ≡ length whole = ap dot_at_of is ∙ dot_at-after whole fraction no_dots in
    let size : length s ≡ length whole + suc (length fraction) = ap length is ∙ length-append whole (46 ∷ fraction) in
    and_from _ _
    (and_from _ _ (lt-ltb _ _ (omega arith))
    (ap some_digits (ap (λ n. take n s) at ∙ (ap (take (length whole)) is ∙ take_at whole (46 ∷ fraction) _ refl)) ∙ (some_digits-Decides whole).1 w))
    (ap some_digits (ap (λ n. drop (suc n) s) at ∙ (ap (drop (suc (length whole))) is ∙ past whole fraction)) ∙ (some_digits-Decides fraction).1 f)
  where
    past : (xs ys : List ℕ) → drop (suc (length xs)) (xs ++ 46 ∷ ys) ≡ ys
    past [] ys = refl
    past (x ∷ xs) ys = past xs ys

pub float-Decides : (s : List ℕ) → Decides (float s) (Float s)
unfolding float
float-Decides s = (reads, writes)
  where
    reads : fractional (unsigned s) ≡ true → Float s
    reads e =
        let u : List ℕ = unsigned s in
        let h = and_parts _ _ e in
        let g = and_parts _ _ h.0 in
        sign_of s (λ sign signed is. record {
          sign = sign;
          whole = take (dot_at_of u) u;
          fraction = drop (suc (dot_at_of u)) u;
          is = is ∙ ap (λ x. sign ++ x) (dot_splits u (ltb-true _ _ g.0));
          signed = signed;
          before = (some_digits-Decides _).0 g.1;
          after = (some_digits-Decides _).0 h.1;
        })

    writes : Float s → fractional (unsigned s) ≡ true
    writes p =
        let w : SomeDigits p.whole = p.before in
        let start : p.whole ++ 46 ∷ p.fraction ≡ w.first ∷ (w.more ++ 46 ∷ p.fraction) = ap (λ x. x ++ 46 ∷ p.fraction) w.is in
        let u : unsigned s ≡ p.whole ++ 46 ∷ p.fraction = unsigned_is s p.sign _ w.first (w.more ++ 46 ∷ p.fraction) start (λ z. omega (arith, w.all.0)) p.signed p.is in
        fractional-from (unsigned s) p.whole p.fraction u w p.after
