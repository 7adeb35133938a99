-- The number and the place of each fault of the resolver. Want of memory has neither.
use Rattle.std.specs.Prelude.{◌≡◌, ℕ, Some, None, Option}
use Rattle.resolver.specs.declared.fault.Fault.{Fault}
use Rattle.resolver.specs.declared.fault.Fault.TheVariants.{Undeclared, Exhausted, Uncollected, Memory}
use Rattle.resolver.specs.Resolved.{Resolved, refused}

abbrev pub told : Fault → Option (ℕ × ℕ)
told (Undeclared p) = Some (10, p)
told (Exhausted p) = Some (11, p)
told Uncollected = Some (14, 0)
told Memory = None

-- the number and the place are those by which the names are refused; of want of memory nothing follows
abbrev pub Tells : Resolved → Option (ℕ × ℕ) → Type 0
Tells x None = Unit {0}
Tells x (Some y) = x ≡ refused y.0 y.1
