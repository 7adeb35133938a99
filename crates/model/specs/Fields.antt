-- The fields of the records, each by the value of its bit in the record's map.
use Rattle.std.specs.Prelude.{◌≡◌, ℕ, true, refl, nat_lt}
use Rattle.model.specs.declared.fields.ModuleField.{ModuleField}
use Rattle.model.specs.declared.fields.ModuleField.TheVariants.{Modules, Classes, Functions, Attributes}
use Rattle.model.specs.declared.fields.ClassField.{ClassField}
use Rattle.model.specs.declared.fields.ClassField.TheVariants.{Bases, Methods, Attributes as ClassAttributes, Decorators, Inner}
use Rattle.model.specs.declared.fields.FunctionField.{FunctionField}
use Rattle.model.specs.declared.fields.FunctionField.TheVariants.{Decorators as FunctionDecorators, Positional, Regular, Vararg, Keyword, Kwarg, Returns}
use Rattle.model.specs.declared.fields.ValueField.{ValueField}
use Rattle.model.specs.declared.fields.ValueField.TheVariants.{Value, Annotation}

abbrev pub module_value : ModuleField → ℕ
module_value Modules = 1
module_value Classes = 2
module_value Functions = 4
module_value Attributes = 8

pub module_positive : (f : ModuleField) → nat_lt 0 (module_value f) ≡ true
module_positive Modules = refl
module_positive Classes = refl
module_positive Functions = refl
module_positive Attributes = refl

abbrev pub class_value : ClassField → ℕ
class_value Bases = 1
class_value Methods = 2
class_value ClassAttributes = 4
class_value Decorators = 8
class_value Inner = 16

pub class_positive : (f : ClassField) → nat_lt 0 (class_value f) ≡ true
class_positive Bases = refl
class_positive Methods = refl
class_positive ClassAttributes = refl
class_positive Decorators = refl
class_positive Inner = refl

abbrev pub function_value : FunctionField → ℕ
function_value FunctionDecorators = 1
function_value Positional = 2
function_value Regular = 4
function_value Vararg = 8
function_value Keyword = 16
function_value Kwarg = 32
function_value Returns = 64

pub function_positive : (f : FunctionField) → nat_lt 0 (function_value f) ≡ true
function_positive FunctionDecorators = refl
function_positive Positional = refl
function_positive Regular = refl
function_positive Vararg = refl
function_positive Keyword = refl
function_positive Kwarg = refl
function_positive Returns = refl

abbrev pub value_value : ValueField → ℕ
value_value Value = 1
value_value Annotation = 2

pub value_positive : (f : ValueField) → nat_lt 0 (value_value f) ≡ true
value_positive Value = refl
value_positive Annotation = refl
