-- Passing over an expression leads behind it.
use Rattle.std.proofs.Common.{◌≡◌, ℕ, zero, suc, Bool, true, List, sym, refl, ap, ◌∙◌}
use Rattle.model.specs.Tree.{Expr, end, item}
use Rattle.model.specs.Read.{place, Head, constant_head, name_head, attr_head, binop_head, tuple_head, list_head, subscript_head}
use Rattle.walk.specs.Total.{head, text, rows, parts, expr, any_expr}
use Rattle.walk.specs.Puts.{skip, skips, skip_parts}

module _ (one : List ℕ → Expr × List ℕ) (past : List ℕ → List ℕ) (same : (bs : List ℕ) → (one bs).1 ≡ past bs) where
  rows_skipped : (k : ℕ) (bs : List ℕ) → (rows end item one k bs).1 ≡ skips past k bs
  rows_skipped zero bs = refl
  rows_skipped (suc k) bs = rows_skipped k (one bs).1 ∙ ap (skips past k) (same bs)

  two_skipped : (bs : List ℕ) → (one (one bs).1).1 ≡ past (past bs)
  two_skipped bs = same (one bs).1 ∙ ap past (same bs)

  parts_skipped : (p : ℕ) (h : Head) (bs : List ℕ) → (parts one p h bs).1 ≡ skip_parts past h bs
  parts_skipped p (constant_head c) bs = refl
  parts_skipped p (name_head s) bs = refl
  parts_skipped p attr_head bs = ap (λ r. (text r).1) (same bs)
  parts_skipped p binop_head bs = two_skipped bs
  parts_skipped p (tuple_head k) bs = rows_skipped k bs
  parts_skipped p (list_head k) bs = rows_skipped k bs
  parts_skipped p subscript_head bs = two_skipped bs

pub expr_skipped : (n d : ℕ) (bs : List ℕ) → (expr n d bs).1 ≡ skip d bs
unfolding expr skip
expr_skipped n zero bs = refl
expr_skipped n (suc d) bs = parts_skipped (expr n d) (skip d) (expr_skipped n d) (place n bs) (head bs).0 (head bs).1

pub value_skipped : (n d : ℕ) (stands : Bool) (bs rest : List ℕ) → stands ≡ true → rest ≡ skip d bs → rest ≡ (any_expr n d stands bs).1
value_skipped n d stands bs rest s e = e ∙ (sym (expr_skipped n d bs) ∙ ap (λ (b : Bool). (any_expr n d b bs).1) (sym s))
