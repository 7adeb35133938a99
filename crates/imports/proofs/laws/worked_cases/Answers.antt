use Rattle.std.proofs.Common.{refl}
use Rattle.std.specs.Fmt.{digits}
use Rattle.naming.specs.Next.{front, number, next_name}
use Rattle.paths.specs.Paths.{relative_text}
use Rattle.binding.specs.Binding.{taken, declared_by}
use Rattle.imports.specs.Lines.{import_lines_of}
use Rattle.imports.proofs.laws.worked_cases.Goals as goal

pub returns : goal.returns
unfolding digits front number next_name relative_text taken declared_by import_lines_of
returns c = ((refl, refl), ((refl, refl), ((refl, refl), ((refl, refl), ((refl, refl), ((refl, refl), ((refl, refl), tt)))))))
