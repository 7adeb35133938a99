-- Whether a text begins with a line and its newline.
use Rattle.std.proofs.Common.{◌≡◌, ℕ, ◌≤◌, Bool, false, List, [], ◌∷◌, ◌++◌, length, get_or, take, drop, Decides, sym, refl, ap, ◌∙◌, arith, take_at, append_assoc}
use mathlib.Core.Bool.{false≢true}
use Rattle.std.proofs.lemmas.List.{take-append-drop}
use Rattle.std.proofs.lemmas.Bool.Decides.{Decides-like}
use Rattle.sink.specs.Sinks.{Plain}
use Rattle.sink.specs.Texts.{Matching}

-- what a test tells that is false since the fact does not hold
never : {P : Type 0} → (P → ⊥) → Decides false P
never n = (λ e. absurd (false≢true e), λ p. absurd (n p))

-- where a text begins with the line and its newline, the rest follows
begins_with : (text line : List ℕ) → Matching text (line ∷ []) → text ≡ line ++ (10 ∷ drop (length (line ++ (10 ∷ []))) text)
begins_with text line m =
    sym (take-append-drop (length (line ++ (10 ∷ []))) text) ∙ ap (λ t. t ++ drop (length (line ++ (10 ∷ []))) text) m.1 ∙ append_assoc line (10 ∷ []) (drop (length (line ++ (10 ∷ []))) text)

pub begins_other : (text line : List ℕ) → ((rest : List ℕ) → text ≡ line ++ rest → ⊥) → Decides false (Matching text (line ∷ []))
begins_other text line n = never (λ p. n (10 ∷ drop (length (line ++ (10 ∷ []))) text) (begins_with text line p))

pub begins_if_plain : (text line rest : List ℕ) (s : Bool) → text ≡ line ++ rest → 1 ≤ length rest → get_or rest 0 0 ≡ 10 → Decides s (Plain line) → Decides s (Matching text (line ∷ []))
begins_if_plain text line [] s is some n d = absurd (omega arith)
begins_if_plain text line (b ∷ rest) s is some n d =
    Decides-like s (λ p. ((p, tt), begins)) (λ p. p.0.0) d
  where
    whole : text ≡ (line ++ (10 ∷ [])) ++ rest
    whole = is ∙ ap (λ c. line ++ (c ∷ rest)) n ∙ sym (append_assoc line (10 ∷ []) rest)

    begins : take (length (line ++ (10 ∷ []))) text ≡ line ++ (10 ∷ [])
    begins = ap (take (length (line ++ (10 ∷ [])))) whole ∙ take_at (line ++ (10 ∷ [])) rest (length (line ++ (10 ∷ []))) refl
