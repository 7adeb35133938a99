-- A name's root and rest.
use Rattle.std.proofs.Common.{◌≡◌, ℕ, suc, ◌+◌, ◌≤◌, Bool, true, false, cond, not, eqb, ltb, List, [], ◌∷◌, ◌++◌, length, take, drop, Some, None, Option, ltb-false, refl, ap, ◌∙◌, arith}
use Rattle.std.specs.List.{position_or_len}
use Rattle.std.specs.Option.{unwrap_or}
use Rattle.std.proofs.lemmas.List.Sums.{prefix_len-le-length}
use Rattle.references.specs.References.{root_of, rest_of}

joined_step : (dot : Bool) (b : ℕ) (bs : List ℕ) → root_of bs ++ rest_of bs ≡ bs → cond dot [] (b ∷ root_of bs) ++ cond dot (b ∷ bs) (rest_of bs) ≡ b ∷ bs
joined_step true b bs h = refl
joined_step false b bs h = ap (λ x. b ∷ x) h

-- together they are the name
pub root-rest : (name : List ℕ) → root_of name ++ rest_of name ≡ name
root-rest [] = refl
root-rest (b ∷ bs) = joined_step (eqb b 46) b bs (root-rest bs)

-- where the first dot stands, or the length
abbrev pub dot_at : List ℕ → ℕ
dot_at name = position_or_len (λ b. eqb b 46) name

front_step : (dot : Bool) (b k : ℕ) (bs root : List ℕ) → take k bs ≡ root → take (cond (not dot) (1 + k) 0) (b ∷ bs) ≡ cond dot [] (b ∷ root)
front_step true b k bs root h = refl
front_step false b k bs root h = let e : 1 + k ≡ suc k = omega arith in ap (λ n. take n (b ∷ bs)) e ∙ ap (λ x. b ∷ x) h

pub take-root : (name : List ℕ) → take (dot_at name) name ≡ root_of name
take-root [] = refl
take-root (b ∷ bs) = front_step (eqb b 46) b (dot_at bs) bs (root_of bs) (take-root bs)

back_step : (dot : Bool) (b k : ℕ) (bs rest : List ℕ) → drop k bs ≡ rest → drop (cond (not dot) (1 + k) 0) (b ∷ bs) ≡ cond dot (b ∷ bs) rest
back_step true b k bs rest h = refl
back_step false b k bs rest h = let e : 1 + k ≡ suc k = omega arith in ap (λ n. drop n (b ∷ bs)) e ∙ h

pub drop-root : (name : List ℕ) → drop (dot_at name) name ≡ rest_of name
drop-root [] = refl
drop-root (b ∷ bs) = back_step (eqb b 46) b (dot_at bs) bs (rest_of bs) (drop-root bs)

found_end : (found : Bool) (d n : ℕ) → ltb d n ≡ found → d ≤ n → unwrap_or (cond found (Some d) None) n ≡ d
found_end true d n e l = refl
found_end false d n e l = let past = ltb-false d n e in omega (arith, l, past)

-- no dot stands past the end
pub dot-within : (name : List ℕ) → dot_at name ≤ length name
dot-within name = prefix_len-le-length (λ b. not (eqb b 46)) name

-- where the search for a dot ends
pub search_end : (name : List ℕ) (r : Option ℕ) (end : ℕ) → r ≡ cond (ltb (dot_at name) (length name)) (Some (dot_at name)) None → end ≡ unwrap_or r (length name) → end ≡ dot_at name
search_end name r end found is =
    is ∙ ap (λ o. unwrap_or o (length name)) found
    ∙ found_end (ltb (dot_at name) (length name)) (dot_at name) (length name) refl (dot-within name)
