-- A name in two parts, written to the start of a buffer.
use Rattle.std.proofs.Common.{◌≡◌, ℕ, ◌+◌, ◌-◌, ◌<◌, ◌≤◌, true, false, cond, ltb, List, ◌++◌, length, take, drop, sym, refl, ap, ◌∙◌, subst, append_assoc, arith, length-append, lt-ltb}
use native.Mathlib.Nat.{sub-zero}
use borrow.Rule.Slice.PartMut.{put_mid, post_of, Post-is}
use Rattle.std.proofs.lemmas.List.{take_at}
use Rattle.std.proofs.lemmas.Slice.{drop-append-drop}
use Rattle.std.proofs.lemmas.Bool.{le-ltb}
use Rattle.resolver.specs.Resolved.{named}
use Rattle.session.specs.Local.{written, refused, in_room, Writes}

both : (b r buf : List ℕ) → put_mid (length b) (length b + length r - length b) (b ++ post_of 0 (length b - 0) buf) r ≡ (b ++ r) ++ drop (length (b ++ r)) buf
both b r buf =
    let rest = post_of 0 (length b - 0) buf in
    let front : take (length b) (b ++ rest) ≡ b = take_at b rest (length b) refl in
    let behind : post_of (length b) (length b + length r - length b) (b ++ rest) ≡ drop (length (b ++ r)) buf =
    Post-is (length b) (length b + length r) (b ++ rest) (omega arith)
    ∙ ap (λ k. drop (length b + length r) (b ++ drop k buf)) (sub-zero (length b))
    ∙ drop-append-drop (length b) buf b (length b + length r) (omega arith) refl
    ∙ ap (λ k. drop k buf) (sym (length-append b r)) in
    (λ i. front i ++ (r ++ behind i)) ∙ sym (append_assoc b r (drop (length (b ++ r)) buf))

pub put_both : (b r buf ya yb : List ℕ) → ya ≡ b → yb ≡ r → length b + length r ≤ length buf
    → Writes (in_room (named (b ++ r)) (length buf)) (length b + length r) buf (put_mid (length b) (length b + length r - length b) (ya ++ post_of 0 (length b - 0) buf) yb)
put_both b r buf ya yb ea eb h =
    let fits : ltb (length buf) (length (b ++ r)) ≡ false = le-ltb (length buf) (length (b ++ r)) (omega (arith, length-append b r)) in
    subst (λ c. Writes (cond c (refused 15 (length (b ++ r))) (written (b ++ r))) (length b + length r) buf (put_mid (length b) (length b + length r - length b) (ya ++ post_of 0 (length b - 0) buf) yb)) (sym fits)
    (sym (length-append b r), (λ i. put_mid (length b) (length b + length r - length b) (ea i ++ post_of 0 (length b - 0) buf) (eb i)) ∙ both b r buf)

pub no_room : (b r : List ℕ) (room : ℕ) → room < length b + length r → in_room (named (b ++ r)) room ≡ refused 15 (length b + length r)
no_room b r room h =
    let short : ltb room (length (b ++ r)) ≡ true = lt-ltb room (length (b ++ r)) (omega (arith, length-append b r)) in
    ap (λ c. cond c (refused 15 (length (b ++ r))) (written (b ++ r))) short ∙ ap (refused 15) (length-append b r)
