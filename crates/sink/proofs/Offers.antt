-- What a sink means after a line that it took.
use Rattle.std.proofs.Common.{◌≡◌, ℕ, ◌+◌, ◌≤◌, List, [], ◌∷◌, ◌++◌, length, take, drop, sym, ap, ◌∙◌, subst, append_assoc, arith, length-append, length-drop, length-take, take-add}
use Rattle.std.proofs.lemmas.List.{drop-drop, take-append-drop}
use Rattle.sink.specs.Sinks.{Plain, Same, Taking}
use Rattle.sink.specs.Texts.{written, lines_in, Whole, Fitting, Matching}
use Rattle.sink.proofs.Lines.{lines_more, whole-more, count-more, length-line}

-- runs that fit

fits-behind : (room left : ℕ) (line : List ℕ) → Plain line → left + (length line + 1) ≡ room → Same (Fitting left) (λ rs. Fitting room (line ∷ rs))
fits-behind room left line p e =
    record {
      to = λ rs f. ((p, f.0), omega (arith, e, f.1, length-append line (10 ∷ written rs)));
      back = λ rs f. (f.0.1, omega (arith, e, f.1, length-append line (10 ∷ written rs)));
    }

pub fit_taken : (text text' line : List ℕ) (room left : ℕ) → Whole text → Fitting room (line ∷ []) → text' ≡ text ++ (line ++ (10 ∷ [])) → left + (length line + 1) ≡ room → Taking (lines_in text) (Fitting room) (line ∷ []) (lines_in text') (Fitting left)
fit_taken text text' line room left w f t e =
    record { would = f; grown = ap lines_in t ∙ lines_more text line w f.0.0; rest = fits-behind room left line f.0.0 e }

pub fit_whole : (text text' line : List ℕ) → Whole text → Plain line → text' ≡ text ++ (line ++ (10 ∷ [])) → Whole text'
fit_whole text text' line w p t = subst Whole (sym t) (whole-more text line w p)

pub fit_counted : (text text' line : List ℕ) → Whole text → Plain line → text' ≡ text ++ (line ++ (10 ∷ [])) → (n : ℕ) → n ≡ length (lines_in text) → n + 1 ≡ length (lines_in text')
fit_counted text text' line w p t n e =
    ap (λ k. k + 1) e ∙ sym (count-more text line w p) ∙ ap (λ s. length (lines_in s)) (sym t)

-- runs that match

begins-behind : (w x rest : List ℕ) → take (length x) rest ≡ x → take (length (w ++ x)) (w ++ rest) ≡ w ++ x
begins-behind [] x rest e = e
begins-behind (b ∷ w) x rest e = ap (λ t. b ∷ t) (begins-behind w x rest e)

begins-back : (w x rest : List ℕ) → take (length (w ++ x)) (w ++ rest) ≡ w ++ x → take (length x) rest ≡ x
begins-back [] x rest e = e
begins-back (b ∷ w) x rest e = begins-back w x rest (ap (drop 1) e)

-- the text begins with the line
module _ (text line rest : List ℕ) (p : Plain line) (is : text ≡ (line ++ (10 ∷ [])) ++ rest) where
  matches_behind : Same (Matching rest) (λ rs. Matching text (line ∷ rs))
  matches_behind =
      record {
        to = λ rs m. ((p, m.0), subst (λ t. take (length t) text ≡ t) (append_assoc line (10 ∷ []) (written rs)) (subst (λ t. take (length ((line ++ (10 ∷ [])) ++ written rs)) t ≡ (line ++ (10 ∷ [])) ++ written rs) (sym is) (begins-behind (line ++ (10 ∷ [])) (written rs) rest m.1)));
        back = λ rs m. (m.0.1, begins-back (line ++ (10 ∷ [])) (written rs) rest (subst (λ t. take (length ((line ++ (10 ∷ [])) ++ written rs)) t ≡ (line ++ (10 ∷ [])) ++ written rs) is (subst (λ t. take (length t) text ≡ t) (sym (append_assoc line (10 ∷ []) (written rs))) m.1)));
      }

-- at a place in a text that goes on with the line and a newline
module _ (text line : List ℕ) (at : ℕ) (m : Matching (drop at text) (line ∷ [])) where
  begun : take (length line + 1) (drop at text) ≡ line ++ (10 ∷ [])
  begun = ap (λ n. take n (drop at text)) (sym (length-line line)) ∙ m.1

  pub match_within : at + (length line + 1) ≤ length text
  match_within = omega (arith, ap length begun, length-line line, length-take (length line + 1) (drop at text), length-drop at text)

  pub match_came : take (at + (length line + 1)) text ≡ take at text ++ (line ++ (10 ∷ []))
  match_came = take-add at (length line + 1) text ∙ ap (λ t. take at text ++ t) begun

  match_left : drop at text ≡ (line ++ (10 ∷ [])) ++ drop (at + (length line + 1)) text
  match_left =
      sym (take-append-drop (length line + 1) (drop at text)) ∙ ap (λ t. t ++ drop (length line + 1) (drop at text)) begun ∙ ap (λ t. (line ++ (10 ∷ [])) ++ t) (drop-drop (length line + 1) at text)

  pub match_taken : Whole (take at text) → Taking (lines_in (take at text)) (Matching (drop at text)) (line ∷ []) (lines_in (take (at + (length line + 1)) text)) (Matching (drop (at + (length line + 1)) text))
  match_taken w =
      record {
        would = m;
        grown = ap lines_in match_came ∙ lines_more (take at text) line w m.0.0;
        rest = matches_behind (drop at text) line (drop (at + (length line + 1)) text) m.0.0 match_left;
      }

  pub match_whole : Whole (take at text) → Whole (take (at + (length line + 1)) text)
  match_whole w = fit_whole (take at text) (take (at + (length line + 1)) text) line w m.0.0 match_came

  pub match_counted : Whole (take at text) → (n : ℕ) → n ≡ length (lines_in (take at text)) → n + 1 ≡ length (lines_in (take (at + (length line + 1)) text))
  match_counted w = fit_counted (take at text) (take (at + (length line + 1)) text) line w m.0.0 match_came
