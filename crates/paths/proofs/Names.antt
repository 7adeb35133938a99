-- Names and their parts.
use Rattle.std.proofs.Common.{◌≡◌, ℕ, Bool, true, false, cond, eqb, List, [], ◌∷◌, ◌++◌, length, replicate, refl, ap, ◌∙◌}
use Rattle.std.specs.List.{AllByRecursion}
use Rattle.std.proofs.lemmas.Bool.{eqb-true, eqb-false, ne_eqb}
use Rattle.paths.specs.Paths.{first_part, other_parts, split, join_from, join}
use Rattle.paths.specs.Shared.{dots_in}
use Rattle.paths.specs.Laws.{NoDot}

-- parts joined again

pub join_more : (b : ℕ) (p : List ℕ) (ps : List (List ℕ)) → join_from (b ∷ p) ps ≡ b ∷ join_from p ps
join_more b p [] = refl
join_more b p (q ∷ qs) = refl

join_step : (dot : Bool) (b : ℕ) (bs : List ℕ) → eqb b 46 ≡ dot → join (split bs) ≡ bs →
    join_from (cond dot [] (b ∷ first_part bs)) (cond dot (first_part bs ∷ other_parts bs) (other_parts bs)) ≡ b ∷ bs
join_step true b bs e h = let is = eqb-true b 46 e in cc
join_step false b bs e h = join_more b (first_part bs) (other_parts bs) ∙ ap (λ x. b ∷ x) h

pub join-split : (bs : List ℕ) → join (split bs) ≡ bs
join-split [] = refl
join-split (b ∷ bs) = join_step (eqb b 46) b bs refl (join-split bs)

-- joined parts split again

pub first_of : (p s : List ℕ) → NoDot p → first_part (p ++ 46 ∷ s) ≡ p
first_of [] s h = refl
first_of (b ∷ p) s h = rw (ne_eqb b 46 h.0) (ap (λ x. b ∷ x) (first_of p s h.1))

pub others_of : (p s : List ℕ) → NoDot p → other_parts (p ++ 46 ∷ s) ≡ split s
others_of [] s h = refl
others_of (b ∷ p) s h = rw (ne_eqb b 46 h.0) (others_of p s h.1)

pub first_alone : (p : List ℕ) → NoDot p → first_part p ≡ p
first_alone [] h = refl
first_alone (b ∷ p) h = rw (ne_eqb b 46 h.0) (ap (λ x. b ∷ x) (first_alone p h.1))

pub none_other : (p : List ℕ) → NoDot p → other_parts p ≡ []
none_other [] h = refl
none_other (b ∷ p) h = rw (ne_eqb b 46 h.0) (none_other p h.1)

pub split-join : (p : List ℕ) (ps : List (List ℕ)) → NoDot p → AllByRecursion NoDot ps → split (join_from p ps) ≡ p ∷ ps
split-join p [] h hs = let f = first_alone p h in let o = none_other p h in cc
split-join p (q ∷ qs) h hs =
    let f = first_of p (join_from q qs) h in
    let o = others_of p (join_from q qs) h in
    let more = split-join q qs hs.0 hs.1 in
    cc

-- no part of a split has a dot

no_dot_step : (dot : Bool) (b : ℕ) (bs : List ℕ) → eqb b 46 ≡ dot → AllByRecursion NoDot (split bs) →
    AllByRecursion NoDot (cond dot [] (b ∷ first_part bs) ∷ cond dot (first_part bs ∷ other_parts bs) (other_parts bs))
no_dot_step true b bs e h = (tt, h)
no_dot_step false b bs e h = ((eqb-false b 46 e, h.0), h.1)

pub no_dot_split : (bs : List ℕ) → AllByRecursion NoDot (split bs)
no_dot_split [] = (tt, tt)
no_dot_split (b ∷ bs) = no_dot_step (eqb b 46) b bs refl (no_dot_split bs)

-- a dot for each part but the first

dots-step : (dot : Bool) (bs : List ℕ) → dots_in bs ≡ replicate (length (other_parts bs)) 46 →
    cond dot (46 ∷ dots_in bs) (dots_in bs) ≡ replicate (length (cond dot (first_part bs ∷ other_parts bs) (other_parts bs))) 46
dots-step true bs h = ap (λ x. 46 ∷ x) h
dots-step false bs h = h

pub dots_in_lem : (bs : List ℕ) → dots_in bs ≡ replicate (length (other_parts bs)) 46
dots_in_lem [] = refl
dots_in_lem (b ∷ bs) = dots-step (eqb b 46) bs (dots_in_lem bs)
