-- The text of an expression, by bytes.
use Rattle.std.specs.Prelude.{ℕ, ◌+◌, ◌/◌, ◌%◌, Bool, true, false, cond, [], ◌∷◌, ◌++◌, codes, eqb, ltb}
use Rattle.model.specs.Tree.{Text, Constant, Expr, Exprs, py_none, py_false, py_true, int, float, str, ellipsis, constant, name, attr, binop, tuple, list, subscript, end, item}
use Rattle.model.specs.Uses.{builtins, if_name}
use Rattle.references.specs.References.{Reference}

-- what each reference is called
abbrev pub Calls : Type 0
Calls = Reference → Text

-- ---- constants

-- a small hexadecimal digit
abbrev pub hex_digit : ℕ → ℕ
hex_digit d = cond (ltb d 10) (48 + d) (87 + d)

-- In a string the quotation mark, the backslash, newline, return and tab have escapes of their own, and so has, by its
-- number, every other byte below 32.
abbrev pub escaped : ℕ → Text
escaped b =
    cond (eqb b 34) (92 ∷ 34 ∷ [])
    (cond (eqb b 92) (92 ∷ 92 ∷ [])
    (cond (eqb b 10) (codes "\\n")
    (cond (eqb b 13) (codes "\\r")
    (cond (eqb b 9) (codes "\\t")
    (cond (ltb b 32) (codes "\\x" ++ (hex_digit (b / 16) ∷ hex_digit (b % 16) ∷ [])) (b ∷ []))))))

abbrev pub escapes : Text → Text
escapes [] = []
escapes (b ∷ bs) = escaped b ++ escapes bs

abbrev pub constant_text : Constant → Text
constant_text py_none = codes "None"
constant_text py_false = codes "False"
constant_text py_true = codes "True"
constant_text (int s) = s
constant_text (float s) = s
constant_text (str s) = 34 ∷ (escapes s ++ 34 ∷ [])
constant_text ellipsis = codes "..."

-- ---- parentheses

abbrev pub is_number : Constant → Bool
is_number py_none = false
is_number py_false = false
is_number py_true = false
is_number (int s) = true
is_number (float s) = true
is_number (str s) = false
is_number ellipsis = false

-- a right operand that is itself an operation stands in parentheses
abbrev pub as_operand : Expr → Bool
as_operand (constant p c) = false
as_operand (name p s) = false
as_operand (attr p e s) = false
as_operand (binop p e f) = true
as_operand (tuple p es) = false
as_operand (list p es) = false
as_operand (subscript p e f) = false

-- so does an operation, an Int or a Float before `.` or `[`
abbrev pub as_base : Expr → Bool
as_base (constant p c) = is_number c
as_base (name p s) = false
as_base (attr p e s) = false
as_base (binop p e f) = true
as_base (tuple p es) = false
as_base (list p es) = false
as_base (subscript p e f) = false

abbrev pub enclosed : Bool → Text → Text
enclosed true t = 40 ∷ (t ++ 41 ∷ [])
enclosed false t = t

-- how an operation is written: the one place that knows
abbrev pub operation : Text → Text → Text
operation left right = left ++ (codes " |" ++ right)

-- a Tuple has parentheses, but not as a slice, unless it is empty
abbrev pub bounded : Bool → Exprs → Text → Text
bounded slice end t = 40 ∷ (t ++ 41 ∷ [])
bounded true (item e es) t = t
bounded false (item e es) t = 40 ∷ (t ++ 41 ∷ [])

-- behind the elements of a Tuple that has but one stands a comma
abbrev pub behind_first : Exprs → Text
behind_first end = 44 ∷ []
behind_first (item e es) = []

abbrev pub lone : Exprs → Text
lone end = []
lone (item e es) = behind_first es

-- ---- expressions

-- `slice`: whether the expression is the slice of a Subscript
abbrev mutual
  pub text_at : Calls → Bool → Expr → Text
  text_at call slice (constant p c) = constant_text c
  text_at call slice (name p s) = call (builtins, s)
  text_at call slice (attr p e s) = if_name e (λ m. call (m, s)) (enclosed (as_base e) (text_at call false e) ++ 46 ∷ s)
  text_at call slice (binop p e f) = operation (text_at call false e) (enclosed (as_operand f) (text_at call false f))
  text_at call slice (tuple p es) = bounded slice es (elements_text call es ++ lone es)
  text_at call slice (list p es) = 91 ∷ (elements_text call es ++ 93 ∷ [])
  text_at call slice (subscript p e f) = enclosed (as_base e) (text_at call false e) ++ 91 ∷ (text_at call true f ++ 93 ∷ [])

  -- joined by `, `
  pub elements_text : Calls → Exprs → Text
  elements_text call end = []
  elements_text call (item e es) = text_at call false e ++ others_text call es

  pub others_text : Calls → Exprs → Text
  others_text call end = []
  others_text call (item e es) = codes ", " ++ (text_at call false e ++ others_text call es)

abbrev pub expr_text : Calls → Expr → Text
expr_text call e = text_at call false e
