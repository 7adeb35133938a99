-- The text of a path, from where the common leading parts end.
use Rattle.std.proofs.Common.{◌≡◌, ℕ, suc, ◌+◌, ◌-◌, ◌≤◌, Bool, true, false, cond, ◌&&◌, eqb, List, [], ◌∷◌, ◌++◌, length, take, drop, replicate, Some, None, Option, sym, refl, ap, ◌∙◌, add-one, arith}
use Rattle.std.specs.Str.{bytes_eq}
use Rattle.std.proofs.lemmas.List.{append-nil, append_assoc, drop_all, drop-drop, take_rest}
use Rattle.std.proofs.lemmas.Bool.{eqb-true, eqb-false}
use Rattle.paths.specs.Paths.{Path, path_text, common, relative_by, relative_text, first_part, other_parts, split, join, join_from}
use Rattle.paths.specs.Shared.{dots_in, shared, shared_from}
use Rattle.paths.proofs.Names.{join-split, dots_in_lem}

-- what is written where the common leading parts end at `m`
abbrev pub text_at : List ℕ → List ℕ → Option ℕ → List ℕ
text_at base target None = target
text_at base target (Some m) = 46 ∷ (dots_in (drop m base) ++ drop (suc m) target)

-- the same by recursion: `stop` is written where no more is in common
abbrev text_by : List ℕ → List ℕ → List ℕ → List ℕ
text_by stop [] [] = 46 ∷ []
text_by stop [] (t ∷ ts) = cond (eqb t 46) (46 ∷ ts) stop
text_by stop (b ∷ bs) [] = cond (eqb b 46) (46 ∷ (dots_in (b ∷ bs) ++ [])) stop
text_by stop (b ∷ bs) (t ∷ ts) = cond (eqb b t) (text_by (cond (eqb b 46) (46 ∷ (dots_in (b ∷ bs) ++ ts)) stop) bs ts) stop

under : {A B : Type 0} (f : A → B) (v : Bool) (x y : A) (z : B) → f x ≡ z → f (cond v x y) ≡ cond v z (f y)
under f true x y z h = h
under f false x y z h = refl

next : (i : ℕ) (xs ys : List ℕ) → drop i xs ≡ ys → drop (suc i) xs ≡ drop 1 ys
next i xs ys e = ap (λ n. drop n xs) (sym (add-one i)) ∙ (sym (drop-drop 1 i xs) ∙ ap (drop 1) e)

at-end : (base target bs ts : List ℕ) (i : ℕ) → drop i base ≡ bs → drop (suc i) target ≡ ts → text_at base target (Some i) ≡ 46 ∷ (dots_in bs ++ ts)
at-end base target bs ts i e f = rw (e, f) refl

by_ends : (base target bs ts : List ℕ) (i : ℕ) (last : Option ℕ) → drop i base ≡ bs → drop i target ≡ ts →
    text_at base target (shared_from i last bs ts) ≡ text_by (text_at base target last) bs ts
by_ends base target [] [] i last e f = at-end base target [] [] i e (next i target [] f)
by_ends base target [] (t ∷ ts) i last e f =
    under (text_at base target) (eqb t 46) (Some i) last _ (at-end base target [] ts i e (next i target (t ∷ ts) f))
by_ends base target (b ∷ bs) [] i last e f =
    under (text_at base target) (eqb b 46) (Some i) last _ (at-end base target (b ∷ bs) [] i e (next i target [] f))
by_ends base target (b ∷ bs) (t ∷ ts) i last e f =
    under (text_at base target) (eqb b t) _ last _
    (by_ends base target bs ts (suc i) (cond (eqb b 46) (Some i) last) (next i base (b ∷ bs) e) (next i target (t ∷ ts) f)
    ∙ ap (λ s. text_by s bs ts) (under (text_at base target) (eqb b 46) (Some i) last _ (at-end base target (b ∷ bs) ts i e (next i target (t ∷ ts) f))))

-- the path from below a part in common
abbrev climb : List (List ℕ) → List (List ℕ) → Path
climb bs ts = record { dots = suc (length bs - common bs ts); parts = drop (common bs ts) ts }

climb_step : (same : Bool) (p q : List ℕ) (ps qs : List (List ℕ)) (k : ℕ) →
    replicate (suc (suc (length ps) - cond same (suc k) 0)) 46 ++ join (drop (cond same (suc k) 0) (q ∷ qs))
    ≡ cond same (replicate (suc (length ps - k)) 46 ++ join (drop k qs)) (46 ∷ (46 ∷ (replicate (length ps) 46 ++ join_from q qs)))
climb_step true p q ps qs k = let e : suc (length ps) - suc k ≡ length ps - k = omega arith in rw e refl
climb_step false p q ps qs k = let e : suc (length ps) - 0 ≡ suc (length ps) = omega arith in rw e refl

climb_on : (bs ts : List ℕ) →
    path_text (climb (split bs) (split ts))
    ≡ cond (bytes_eq (first_part bs) (first_part ts)) (path_text (climb (other_parts bs) (other_parts ts))) (46 ∷ (46 ∷ (dots_in bs ++ ts)))
climb_on bs ts =
    climb_step (bytes_eq (first_part bs) (first_part ts)) (first_part bs) (first_part ts) (other_parts bs) (other_parts ts) (common (other_parts bs) (other_parts ts))
    ∙ rw (dots_in_lem bs, join-split ts) refl

-- both texts go on
both_on : (same b-dot t-dot : Bool) (b t : ℕ) (bs ts stop : List ℕ) → eqb b t ≡ same → eqb b 46 ≡ b-dot → eqb t 46 ≡ t-dot →
    ((s : List ℕ) → text_by s bs ts ≡ cond (bytes_eq (first_part bs) (first_part ts)) (path_text (climb (other_parts bs) (other_parts ts))) s) →
    cond same (text_by (cond b-dot (46 ∷ (cond b-dot (46 ∷ dots_in bs) (dots_in bs) ++ ts)) stop) bs ts) stop
    ≡ cond (bytes_eq (cond b-dot [] (b ∷ first_part bs)) (cond t-dot [] (t ∷ first_part ts)))
    (path_text (climb (cond b-dot (split bs) (other_parts bs)) (cond t-dot (split ts) (other_parts ts)))) stop
both_on true true true b t bs ts stop s d e h = h (46 ∷ (46 ∷ (dots_in bs ++ ts))) ∙ sym (climb_on bs ts)
both_on true true false b t bs ts stop s d e h =
    let x = eqb-true b t s in let y = eqb-true b 46 d in absurd (eqb-false t 46 e (cc))
both_on true false true b t bs ts stop s d e h =
    let x = eqb-true b t s in let y = eqb-true t 46 e in absurd (eqb-false b 46 d (cc))
both_on true false false b t bs ts stop s d e h =
    h stop ∙ ap (λ v. cond (v && bytes_eq (first_part bs) (first_part ts)) (path_text (climb (other_parts bs) (other_parts ts))) stop) (sym s)
both_on false true true b t bs ts stop s d e h =
    let x = eqb-true b 46 d in let y = eqb-true t 46 e in absurd (eqb-false b t s (cc))
both_on false true false b t bs ts stop s d e h = refl
both_on false false true b t bs ts stop s d e h = refl
both_on false false false b t bs ts stop s d e h =
    ap (λ v. cond (v && bytes_eq (first_part bs) (first_part ts)) (path_text (climb (other_parts bs) (other_parts ts))) stop) (sym s)

base-over : (dot : Bool) (t : ℕ) (ts stop : List ℕ) →
    cond dot (46 ∷ ts) stop
    ≡ cond (bytes_eq [] (cond dot [] (t ∷ first_part ts))) (path_text (climb [] (cond dot (split ts) (other_parts ts)))) stop
base-over true t ts stop = ap (λ x. 46 ∷ x) (sym (join-split ts))
base-over false t ts stop = refl

target-over : (dot : Bool) (b : ℕ) (bs stop : List ℕ) →
    cond dot (46 ∷ (cond dot (46 ∷ dots_in bs) (dots_in bs) ++ [])) stop
    ≡ cond (bytes_eq (cond dot [] (b ∷ first_part bs)) []) (path_text (climb (cond dot (split bs) (other_parts bs)) [])) stop
target-over true b bs stop =
    let e : suc (length (other_parts bs)) - 0 ≡ suc (length (other_parts bs)) = omega arith in rw (e, dots_in_lem bs) refl
target-over false b bs stop = refl

by_parts : (bs ts stop : List ℕ) →
    text_by stop bs ts ≡ cond (bytes_eq (first_part bs) (first_part ts)) (path_text (climb (other_parts bs) (other_parts ts))) stop
by_parts [] [] stop = refl
by_parts [] (t ∷ ts) stop = base-over (eqb t 46) t ts stop
by_parts (b ∷ bs) [] stop = target-over (eqb b 46) b bs stop
by_parts (b ∷ bs) (t ∷ ts) stop =
    both_on (eqb b t) (eqb b 46) (eqb t 46) b t bs ts stop refl refl refl (λ s. by_parts bs ts s)

relative-step : (same : Bool) (p : List ℕ) (ps : List (List ℕ)) (ts : List ℕ) (k : ℕ) →
    path_text (relative_by (cond same (suc k) 0) (p ∷ ps) (split ts))
    ≡ cond same (replicate (suc (length ps - k)) 46 ++ join (drop k (other_parts ts))) ts
relative-step true p ps ts k = let e : suc (length ps) - suc k ≡ length ps - k = omega arith in rw e refl
relative-step false p ps ts k = join-split ts

-- the text of the path
pub text_from_end : (base target : List ℕ) → text_at base target (shared base target) ≡ relative_text base target
unfolding relative_text
text_from_end base target =
    by_ends base target base target 0 None refl refl
    ∙ (by_parts base target target
    ∙ sym (relative-step (bytes_eq (first_part base) (first_part target)) (first_part base) (other_parts base) target (common (other_parts base) (other_parts target))))

-- what the calls append

pub is_target : (base target : List ℕ) → None ≡ shared base target → target ≡ relative_text base target
is_target base target e = ap (text_at base target) e ∙ text_from_end base target

pub writes_dots : (base target was one dotted : List ℕ) (m : ℕ) → Some m ≡ shared base target → length target ≤ m → one ≡ was ++ 46 ∷ [] →
    dotted ≡ one ++ dots_in (take (length base - m) (drop m base)) → dotted ≡ was ++ relative_text base target
writes_dots base target was one dotted m e l p q =
    q
    ∙ (rw (p, take_rest base m) (append_assoc was (46 ∷ []) (dots_in (drop m base)))
    ∙ ap (λ x. was ++ x) (none ∙ (ap (text_at base target) e ∙ text_from_end base target)))
  where
    none : 46 ∷ dots_in (drop m base) ≡ 46 ∷ (dots_in (drop m base) ++ drop (suc m) target)
    none = let past : length target ≤ suc m = omega arith in rw (drop_all (suc m) target past, append-nil) refl

pub writes_rest : (base target was one dotted after : List ℕ) (m : ℕ) → Some m ≡ shared base target → one ≡ was ++ 46 ∷ [] →
    dotted ≡ one ++ dots_in (take (length base - m) (drop m base)) →
    after ≡ dotted ++ take (length target - (m + 1)) (drop (m + 1) target) → after ≡ was ++ relative_text base target
writes_rest base target was one dotted after m e p q r =
    r
    ∙ (rw (q, p, take_rest base m, take_rest target (m + 1), add-one m) (append_assoc (was ++ 46 ∷ []) (dots_in (drop m base)) (drop (suc m) target) ∙ append_assoc was (46 ∷ []) _)
    ∙ ap (λ x. was ++ x) (ap (text_at base target) e ∙ text_from_end base target))
