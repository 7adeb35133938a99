-- A path leads to its target, and is read back from its text.
use Rattle.std.proofs.Common.{◌≡◌, ℕ, zero, suc, ◌-◌, ◌<◌, ◌≤◌, Bool, true, false, cond, eqb, List, [], ◌∷◌, ◌++◌, length, take, drop, replicate, Some, sym, refl, ap, ◌∙◌, arith}
use Rattle.std.specs.List.{AllByRecursion}
use Rattle.std.specs.Str.{bytes_eq}
use Rattle.std.proofs.lemmas.Bool.{cond-true, lt-ltb, ne_eqb}
use Rattle.paths.specs.Paths.{path_text, common, relative_by, relative_text, resolve, read_path, leading, after_dots, parts_of, split, join}
use Rattle.paths.specs.Laws.{NoDot, SomeByte, PathsResolve, PathsRead, TextsResolve}
use Rattle.std.proofs.lemmas.Slice.Eq.{bytes_eq-Decides}
use Rattle.paths.proofs.Names.{join_more, split-join, no_dot_split}

-- leading parts in common

fits-step : (same : Bool) (k n : ℕ) → k ≤ n → cond same (suc k) 0 ≤ suc n
fits-step true k n h = omega arith
fits-step false k n h = omega arith

common-fits : (base target : List (List ℕ)) → common base target ≤ length base
common-fits [] ts = omega arith
common-fits (b ∷ bs) [] = omega arith
common-fits (b ∷ bs) (t ∷ ts) = fits-step (bytes_eq b t) (common bs ts) (length bs) (common-fits bs ts)

front-step : (same : Bool) (b t : List ℕ) (bs ts : List (List ℕ)) (k : ℕ) → bytes_eq b t ≡ same → take k bs ++ drop k ts ≡ ts →
    take (cond same (suc k) 0) (b ∷ bs) ++ drop (cond same (suc k) 0) (t ∷ ts) ≡ t ∷ ts
front-step true b t bs ts k e h = let is = (bytes_eq-Decides b t).0 e in cc
front-step false b t bs ts k e h = refl

common-front : (base target : List (List ℕ)) → take (common base target) base ++ drop (common base target) target ≡ target
common-front [] ts = refl
common-front (b ∷ bs) [] = refl
common-front (b ∷ bs) (t ∷ ts) = front-step (bytes_eq b t) b t bs ts (common bs ts) refl (common-front bs ts)

resolves_by : (k : ℕ) (base target : List (List ℕ)) → k ≤ length base → take k base ++ drop k target ≡ target →
    resolve base (relative_by k base target) ≡ Some target
resolves_by zero base target l h = refl
resolves_by (suc k) base target l h =
    let below : length base - suc k < length base = omega arith in
    let back : length base - (length base - suc k) ≡ suc k = omega arith in
    cond-true _ _ _ (lt-ltb (length base - suc k) (length base) below) ∙ rw back (ap Some h)

pub paths_resolve_lem : PathsResolve
paths_resolve_lem base target = resolves_by (common base target) base target (common-fits base target) (common-front base target)

-- a path and its text

leading-dots : (n : ℕ) (s : List ℕ) → leading s ≡ 0 → leading (replicate n 46 ++ s) ≡ n
leading-dots zero s h = h
leading-dots (suc n) s h = ap suc (leading-dots n s h)

after_none : (s : List ℕ) → leading s ≡ 0 → after_dots s ≡ s
after_none [] h = refl
after_none (b ∷ bs) h = after (eqb b 46) h
  where
    after : (dot : Bool) → cond dot (suc (leading bs)) 0 ≡ 0 → cond dot (after_dots bs) (b ∷ bs) ≡ b ∷ bs
    after true e = absurd (omega arith)
    after false e = refl

after-dots : (n : ℕ) (s : List ℕ) → leading s ≡ 0 → after_dots (replicate n 46 ++ s) ≡ s
after-dots zero s h = after_none s h
after-dots (suc n) s h = after-dots n s h

starts : (ps : List (List ℕ)) → AllByRecursion SomeByte ps → AllByRecursion NoDot ps → leading (join ps) ≡ 0
starts [] w f = refl
starts ([] ∷ ps) w f = let no = w.0 in absurd (omega arith)
starts ((b ∷ p) ∷ ps) w f = rw (join_more b p ps, ne_eqb b 46 f.0.0) refl

whole : (ps : List (List ℕ)) → AllByRecursion SomeByte ps → AllByRecursion NoDot ps → parts_of (join ps) ≡ ps
whole [] w f = refl
whole ([] ∷ ps) w f = let no = w.0 in absurd (omega arith)
whole ((b ∷ p) ∷ ps) w f = rw (join_more b p ps) (ap split (sym (join_more b p ps)) ∙ split-join (b ∷ p) ps f.0 f.1)

reads : (n : ℕ) (ps : List (List ℕ)) → AllByRecursion SomeByte ps → AllByRecursion NoDot ps →
    read_path (replicate n 46 ++ join ps) ≡ record { dots = n; parts = ps }
unfolding read_path
reads n ps w f =
    let d = leading-dots n (join ps) (starts ps w f) in
    let a = after-dots n (join ps) (starts ps w f) in
    rw (d, a, whole ps w f) refl

pub paths_read_lem : PathsRead
paths_read_lem p w f = reads p.dots p.parts w f

all_drop : (P : List ℕ → Type 0) (k : ℕ) (ps : List (List ℕ)) → AllByRecursion P ps → AllByRecursion P (drop k ps)
all_drop P zero ps h = h
all_drop P (suc k) [] h = h
all_drop P (suc k) (p ∷ ps) h = all_drop P k ps h.1

reads_by : (k : ℕ) (base target : List (List ℕ)) → AllByRecursion SomeByte target → AllByRecursion NoDot target →
    read_path (path_text (relative_by k base target)) ≡ relative_by k base target
reads_by zero base target w f = reads 0 target w f
reads_by (suc k) base target w f =
    reads (suc (length base - suc k)) (drop (suc k) target) (all_drop SomeByte (suc k) target w) (all_drop NoDot (suc k) target f)

pub texts_resolve_lem : TextsResolve
unfolding relative_text
texts_resolve_lem base target w =
    ap (resolve (split base)) (reads_by (common (split base) (split target)) (split base) (split target) w (no_dot_split target))
    ∙ paths_resolve_lem (split base) (split target)
