-- The number that a record's map is.
use Rattle.std.specs.Prelude.{ℕ}
use Rattle.model.specs.declared.fields.Fields.{Fields}

abbrev pub map_of : {F : Type 0} → Fields F → ℕ
map_of s = s.map
