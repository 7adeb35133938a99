use Rattle.std.proofs.Common.{map}
use Rattle.references.specs.References.{pair_of}
use Rattle.binding.specs.Binding.{declared_by}
use Rattle.binding.proofs.Declaring.{names_in}
use Rattle.binding.proofs.Folding.{Folds}
use Rattle.binding.proofs.bind.bind_names.Given as goal

abbrev pub invariant-loop-r : goal.invariant-loop-r
invariant-loop-r l = Folds (declared_by l.own (names_in l.declared)) (map pair_of l.references) l.r-index l.binder l.renaming
