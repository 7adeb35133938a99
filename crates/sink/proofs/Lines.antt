-- A text of whole lines, and one line more.
use Rattle.std.proofs.Common.{◌≡◌, ℕ, ◌+◌, ◌≤◌, eqb, List, [], ◌∷◌, ◌++◌, length, drop, sym, refl, ap, ◌∙◌, append_assoc, arith, length-append}
use Rattle.std.specs.List.{AllByRecursion}
use Rattle.std.proofs.lemmas.Bool.{cond_both, eqb-false, ne_eqb}
use Rattle.sink.specs.Sinks.{Plain}
use Rattle.std.proofs.lemmas.List.{drop-append-le, drop_at, same_from_push}
use Rattle.sink.specs.Texts.{written, begin, lines_in, Whole, TextsEnd}
use Rattle.sink.specs.Lawful.{written_append}

lines-line : (l rest : List ℕ) → Plain l → lines_in (l ++ (10 ∷ rest)) ≡ l ∷ lines_in rest
lines-line [] rest p = refl
lines-line (b ∷ l) rest p = rw (ne_eqb b 10 p.0, lines-line l rest p.1) refl

-- a text is cut into the lines that it was written from
pub lines-written : (ls : List (List ℕ)) (rest : List ℕ) → AllByRecursion Plain ls → lines_in (written ls ++ rest) ≡ ls ++ lines_in rest
lines-written [] rest p = refl
lines-written (l ∷ ls) rest p =
    ap lines_in (append_assoc l (10 ∷ written ls) rest) ∙ lines-line l (written ls ++ rest) p.0 ∙ ap (λ x. l ∷ x) (lines-written ls rest p.1)

begin-plain : (b : ℕ) (ls : List (List ℕ)) → (b ≡ 10 → ⊥) → AllByRecursion Plain ls → AllByRecursion Plain (begin b ls)
begin-plain b [] n p = ((n, tt), tt)
begin-plain b (l ∷ ls) n p = ((n, p.0), p.1)

pub lines-plain : (bs : List ℕ) → AllByRecursion Plain (lines_in bs)
lines-plain [] = tt
lines-plain (b ∷ bs) =
    cond_both (eqb b 10) ([] ∷ lines_in bs) (begin b (lines_in bs)) (AllByRecursion Plain) (λ e. (tt, lines-plain bs)) (λ e. begin-plain b (lines_in bs) (eqb-false b 10 e) (lines-plain bs))

pub lines_more : (text line : List ℕ) → Whole text → Plain line → lines_in (text ++ (line ++ (10 ∷ []))) ≡ lines_in text ++ (line ∷ [])
lines_more text line w p =
    ap (λ t. lines_in (t ++ (line ++ (10 ∷ [])))) (sym w) ∙ lines-written (lines_in text) (line ++ (10 ∷ [])) (lines-plain text) ∙ ap (λ x. lines_in text ++ x) (lines-line line [] p)

pub whole-more : (text line : List ℕ) → Whole text → Plain line → Whole (text ++ (line ++ (10 ∷ [])))
whole-more text line w p =
    ap written (lines_more text line w p) ∙ written_append (lines_in text) (line ∷ []) ∙ ap (λ t. t ++ (line ++ (10 ∷ []))) w

pub count-more : (text line : List ℕ) → Whole text → Plain line → length (lines_in (text ++ (line ++ (10 ∷ [])))) ≡ length (lines_in text) + 1
count-more text line w p = ap length (lines_more text line w p) ∙ length-append (lines_in text) (line ∷ [])

few-lines : (ls : List (List ℕ)) → length ls ≤ length (written ls)
few-lines [] = omega arith
few-lines (l ∷ ls) = omega (arith, few-lines ls, length-append l (10 ∷ written ls))

-- there are no more lines than bytes
pub lines-few : (text : List ℕ) → Whole text → length (lines_in text) ≤ length text
lines-few text w = omega (arith, few-lines (lines_in text), ap length w)

pub length-line : (line : List ℕ) → length (line ++ (10 ∷ [])) ≡ length line + 1
length-line line = length-append line (10 ∷ [])

-- the last byte of a text of lines is a newline
pub texts_end_lem : TextsEnd
texts_end_lem [] front b e = absurd (omega (arith, ap length e, length-append front (b ∷ [])))
texts_end_lem (l ∷ []) front b e = sym (same_from_push l front 10 b e).1
texts_end_lem (l ∷ m ∷ ls) front b e =
    texts_end_lem (m ∷ ls) (drop (length l + 1) front) b (sym (drop_at (l ++ (10 ∷ [])) (written (m ∷ ls)) (length l + 1) (length-line l)) ∙ ap (drop (length l + 1)) (append_assoc l (10 ∷ []) (written (m ∷ ls)) ∙ e) ∙ drop-append-le (length l + 1) front (b ∷ []) short)
  where
    short : length l + 1 ≤ length front
    short = omega (arith, ap length e, length-append l (10 ∷ written (m ∷ ls)), length-append front (b ∷ []), few-lines (m ∷ ls))
