-- Worked cases: expressions with their texts.
use Rattle.std.specs.Prelude.{◌≡◌, List, [], ◌∷◌, ◌++◌, map, codes}
use Rattle.model.specs.Tree.{Text, Expr, int, float, str, ellipsis, constant, name, attr, binop, tuple, list, subscript, end, item}
use Rattle.expressions.specs.Shown.{Calls, expr_text}
use Rattle.expressions.specs.Leads.{decorator_text}

-- everything is called by its attribute
abbrev pub plain : Calls
plain r = r.1

abbrev named : Text → Expr
named s = name 0 s

pub record Case : Type 0 where
  pub expr : Expr
  pub text : Text

abbrev case : Expr → Text → Case
case e t = record { expr = e; text = t }

abbrev pub cases : List Case
cases =
    case (subscript 0 (named (codes "tuple")) (tuple 0 end)) (codes "tuple[()]")
    ∷ case (binop 0 (named (codes "a")) (binop 0 (named (codes "b")) (named (codes "c")))) (codes "a |(b |c)")
    ∷ case (binop 0 (binop 0 (named (codes "a")) (named (codes "b"))) (named (codes "c"))) (codes "a |b |c")
    ∷ case (attr 0 (constant 0 (int (codes "1"))) (codes "real")) (codes "(1).real")
    ∷ case (attr 0 (constant 0 (float (codes "1.5"))) (codes "real")) (codes "(1.5).real")
    ∷ case (attr 0 (binop 0 (named (codes "a")) (named (codes "b"))) (codes "c")) (codes "(a |b).c")
    ∷ case (subscript 0 (binop 0 (named (codes "a")) (named (codes "b"))) (named (codes "c"))) (codes "(a |b)[c]")
    ∷ case (constant 0 (str (0 ∷ 55 ∷ []))) (34 ∷ codes "\\x007" ++ 34 ∷ [])
    ∷ case (constant 0 (str (34 ∷ 92 ∷ 10 ∷ 13 ∷ 9 ∷ 31 ∷ 127 ∷ []))) (34 ∷ 92 ∷ 34 ∷ 92 ∷ 92 ∷ codes "\\n\\r\\t\\x1f" ++ 127 ∷ 34 ∷ [])
    ∷ case (tuple 0 (item (named (codes "a")) end)) (codes "(a,)")
    ∷ case (tuple 0 (item (named (codes "a")) (item (named (codes "b")) end))) (codes "(a, b)")
    ∷ case (subscript 0 (named (codes "X")) (tuple 0 (item (named (codes "a")) end))) (codes "X[a,]")
    ∷ case (subscript 0 (named (codes "X")) (tuple 0 (item (named (codes "a")) (item (named (codes "b")) end)))) (codes "X[a, b]")
    ∷ case (list 0 (item (named (codes "a")) (item (constant 0 ellipsis) end))) (codes "[a, ...]")
    ∷ case (attr 0 (attr 0 (named (codes "m")) (codes "A")) (codes "b")) (codes "A.b")
    ∷ []

abbrev pub CasesHold : Type 0
CasesHold = map (λ c. expr_text plain c.expr) cases ≡ map (λ c. c.text) cases

-- a decorator of a method of class C, which has the members x and y, in the module m
abbrev pub decorator : Expr → Text
decorator e = decorator_text plain (codes "m") (codes "C" ∷ []) (codes "x" ∷ codes "y" ∷ []) e

abbrev pub decorators : List Case
decorators =
    case (attr 0 (attr 0 (named (codes "m")) (codes "C")) (codes "x")) (codes "x")
    ∷ case (attr 0 (named (codes "m")) (codes "C.x")) (codes "x")
    ∷ case (attr 0 (attr 0 (named (codes "m")) (codes "C.x")) (codes "setter")) (codes "x.setter")
    ∷ case (attr 0 (attr 0 (named (codes "m")) (codes "C")) (codes "z")) (codes "C.z")
    ∷ case (attr 0 (named (codes "m")) (codes "C")) (codes "C")
    ∷ case (attr 0 (named (codes "n")) (codes "C.x")) (codes "C.x")
    ∷ case (subscript 0 (attr 0 (named (codes "m")) (codes "C.x")) (named (codes "C"))) (codes "x[C]")
    ∷ case (binop 0 (attr 0 (named (codes "m")) (codes "C.x")) (attr 0 (named (codes "m")) (codes "C.y"))) (codes "x |C.y")
    ∷ case (tuple 0 (item (attr 0 (named (codes "m")) (codes "C.x")) end)) (codes "(C.x,)")
    ∷ []

abbrev pub DecoratorsHold : Type 0
DecoratorsHold = map (λ c. decorator c.expr) decorators ≡ map (λ c. c.text) decorators
