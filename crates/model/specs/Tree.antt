-- The tree that a packed model describes. Every record and every expression carries its place, the offset in the model at
-- which its encoding starts; a module carries beside it the offset behind its submodules, where its own declarations start.
-- Texts are lists of bytes. The lists through which a type reaches itself are types of their own: Exprs, Classes, Modules.
use Rattle.std.specs.Prelude.{ℕ, ◌+◌, max, List, [], ◌∷◌, Some, None, Option}

abbrev pub Text : Type 0
Text = List ℕ

pub data Constant : Type 0 where
  py_none : Constant
  py_false : Constant
  py_true : Constant
  int : Text → Constant
  float : Text → Constant
  str : Text → Constant
  ellipsis : Constant

-- each with its place first; attr is `value.name`, binop is `left | right`, subscript is `value[slice]`
mutual
  pub data Expr : Type 0 where
    constant : ℕ → Constant → Expr
    name : ℕ → Text → Expr
    attr : ℕ → Expr → Text → Expr
    binop : ℕ → Expr → Expr → Expr
    tuple : ℕ → Exprs → Expr
    list : ℕ → Exprs → Expr
    subscript : ℕ → Expr → Expr → Expr

  pub data Exprs : Type 0 where
    end : Exprs
    item : Expr → Exprs → Exprs

pub record Attribute : Type 0 where
  pub place : ℕ
  pub name : Text
  pub value : Option Expr
  pub annotation : Option Expr

pub record Argument : Type 0 where
  pub place : ℕ
  pub name : Text
  pub default : Option Expr
  pub annotation : Option Expr

-- `*name` or `**name`: an argument that has no default
pub record Star : Type 0 where
  pub place : ℕ
  pub name : Text
  pub annotation : Option Expr

pub record Function : Type 0 where
  pub place : ℕ
  pub name : Text
  pub decorators : Exprs
  pub positional : List Argument
  pub regular : List Argument
  pub vararg : Option Star
  pub keyword : List Argument
  pub kwarg : Option Star
  pub returns : Option Expr

mutual
  -- place, name, bases, methods, attributes, decorators, inner classes
  pub data Class : Type 0 where
    pyclass : ℕ → Text → Exprs → List Function → List Attribute → Exprs → Classes → Class

  pub data Classes : Type 0 where
    no_class : Classes
    add_class : Class → Classes → Classes

mutual
  -- place, name, submodules, place behind them, classes, functions, attributes
  pub data Module : Type 0 where
    pymodule : ℕ → Text → Modules → ℕ → Classes → List Function → List Attribute → Module

  pub data Modules : Type 0 where
    no_module : Modules
    add_module : Module → Modules → Modules

-- How deep the tree goes: a module, a class and an expression each stand one deeper than the nearest of these that holds them.
abbrev pub deepest : {A : Type 0} → (A → ℕ) → List A → ℕ
deepest f [] = 0
deepest f (x ∷ xs) = max (f x) (deepest f xs)

abbrev pub if_any : {A : Type 0} → (A → ℕ) → Option A → ℕ
if_any f None = 0
if_any f (Some x) = f x

abbrev mutual
  pub expr_depth : Expr → ℕ
  expr_depth (constant p c) = 1
  expr_depth (name p s) = 1
  expr_depth (attr p e s) = 1 + expr_depth e
  expr_depth (binop p e f) = 1 + max (expr_depth e) (expr_depth f)
  expr_depth (tuple p es) = 1 + exprs_depth es
  expr_depth (list p es) = 1 + exprs_depth es
  expr_depth (subscript p e f) = 1 + max (expr_depth e) (expr_depth f)

  pub exprs_depth : Exprs → ℕ
  exprs_depth end = 0
  exprs_depth (item e es) = max (expr_depth e) (exprs_depth es)

abbrev pub attribute_depth : Attribute → ℕ
attribute_depth a = max (if_any expr_depth a.value) (if_any expr_depth a.annotation)

abbrev pub argument_depth : Argument → ℕ
argument_depth a = max (if_any expr_depth a.default) (if_any expr_depth a.annotation)

abbrev pub star_depth : Star → ℕ
star_depth a = if_any expr_depth a.annotation

abbrev pub function_depth : Function → ℕ
function_depth f =
    max (exprs_depth f.decorators) (max (deepest argument_depth f.positional) (max (deepest argument_depth f.regular) (max (if_any star_depth f.vararg) (max (deepest argument_depth f.keyword) (max (if_any star_depth f.kwarg) (if_any expr_depth f.returns))))))

abbrev mutual
  pub class_depth : Class → ℕ
  class_depth (pyclass p s bases methods attributes decorators inner) =
      1 + max (exprs_depth bases) (max (deepest function_depth methods) (max (deepest attribute_depth attributes) (max (exprs_depth decorators) (classes_depth inner))))

  pub classes_depth : Classes → ℕ
  classes_depth no_class = 0
  classes_depth (add_class c cs) = max (class_depth c) (classes_depth cs)

abbrev mutual
  pub module_depth : Module → ℕ
  module_depth (pymodule p s modules own classes functions attributes) =
      1 + max (modules_depth modules) (max (classes_depth classes) (max (deepest function_depth functions) (deepest attribute_depth attributes)))

  pub modules_depth : Modules → ℕ
  modules_depth no_module = 0
  modules_depth (add_module m ms) = max (module_depth m) (modules_depth ms)
