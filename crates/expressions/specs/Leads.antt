-- The reference with which the text of an expression begins, and the class path that a method's decorator loses.
use Rattle.std.specs.Prelude.{◌+◌, Bool, true, false, ◌&&◌, List, [], ◌∷◌, ◌++◌, length, drop}
use Rattle.model.specs.Tree.{Text, Expr, constant, name, attr, binop, tuple, list, subscript}
use Rattle.model.specs.Uses.{Use, builtins, expr_uses, if_name}
use Rattle.model.specs.Limits.{same_text_of, occurs}
use Rattle.paths.specs.Paths.{split, join}
use Rattle.references.specs.References.{Reference}
use Rattle.expressions.specs.Shown.{Calls, as_base, expr_text}

-- Whole: the expression is a reference, lengthened by the `.name` parts behind it. Begins: only its text begins with one.
pub data Lead : Type 0 where
  nothing : Lead
  whole : Reference → Lead
  begins : Reference → Lead

-- one `.name` more; a dotted text counts as its parts
abbrev pub lengthened : Lead → Text → Lead
lengthened nothing s = nothing
lengthened (whole r) s = whole (r.0, r.1 ++ 46 ∷ s)
lengthened (begins r) s = begins r

-- behind it stands something else than a `.name`
abbrev pub broken : Lead → Lead
broken nothing = nothing
broken (whole r) = begins r
broken (begins r) = begins r

-- no reference begins behind a parenthesis
abbrev pub unless : Bool → Lead → Lead
unless true l = nothing
unless false l = l

abbrev pub lead : Expr → Lead
lead (constant p c) = nothing
lead (name p s) = whole (builtins, s)
lead (attr p e s) = if_name e (λ m. whole (m, s)) (unless (as_base e) (lengthened (lead e) s))
lead (binop p e f) = broken (lead e)
lead (tuple p es) = nothing
lead (list p es) = nothing
lead (subscript p e f) = unless (as_base e) (broken (lead e))

-- the parts begin with the path, and the next one is a member
abbrev pub leads_to_member : List Text → List Text → List Text → Bool
leads_to_member [] members [] = false
leads_to_member [] members (x ∷ xs) = occurs same_text_of x members
leads_to_member (c ∷ path) members [] = false
leads_to_member (c ∷ path) members (x ∷ xs) = same_text_of c x && leads_to_member path members xs

abbrev pub of_own : Text → List Text → List Text → Reference → Bool
of_own own path members r = same_text_of r.0 own && leads_to_member path members (split r.1)

-- whether a decorator of a method begins with a reference (own module, class path, member, ..)
abbrev pub cuts_by : Text → List Text → List Text → Lead → Bool
cuts_by own path members nothing = false
cuts_by own path members (whole r) = of_own own path members r
cuts_by own path members (begins r) = of_own own path members r

-- a method's decorators are those of a class at this path, with these members
abbrev pub cuts : Text → List Text → List Text → Expr → Bool
cuts own path members e = cuts_by own path members (lead e)

-- the class path and its dot are then not printed
abbrev pub cut_text : Bool → List Text → Text → Text
cut_text true path t = drop (length (join path) + 1) t
cut_text false path t = t

abbrev pub decorator_text : Calls → Text → List Text → List Text → Expr → Text
decorator_text call own path members e = cut_text (cuts own path members e) path (expr_text call e)

-- the references of a decorator that are printed uncut: the one that is cut is the first
abbrev pub without_cut : Bool → List Use → List Use
without_cut true us = drop 1 us
without_cut false us = us

abbrev pub uncut_uses : Text → List Text → List Text → Expr → List Use
uncut_uses own path members e = without_cut (cuts own path members e) (expr_uses e)
