use Rattle.std.proofs.Common.{◌<◌, length, get_or, None, ◌∙◌, subst, arith}
use Rattle.std.proofs.lemmas.List.Elements.{All-from_get_or, recursion_from_All}
use Rattle.model.specs.declared.files.File.{File}
use Rattle.references.specs.References.{pair_of}
use Rattle.walk.specs.Total.{own_in}
use Rattle.walk.specs.Collects.{uses_in}
use Rattle.resolver.specs.Answers as resolver
use Rattle.resolver.specs.Resolves.{Named, resolution_in}
use Rattle.session.specs.Local.{Answers}
use Rattle.session.proofs.Locals.{refused-here, named_here}
use Rattle.session.proofs.local.local_in.Goals as goal

abbrev blank : File
blank = record { place = 0; holder = None; own = 0 }

pub returns-in_err-names : goal.returns-in_err-names
returns-in_err-names c =
    refused-here c.args.model.now c.args.files.now c.args.file blank (pair_of c.args.reference) (length c.args.buffer.now)
    (recursion_from_All (λ b. b < 256) c.args.model.now (All-from_get_or (λ b. b < 256) c.args.model.now 0 (λ i h. omega (arith, (c.type_inv.model i).fits)))) c.requires.listed c.requires.there
    _ c.from_residual-in_err-names.result c.args.buffer.now
    (subst (λ own. resolver.Tells (resolution_in c.args.model.now (get_or c.args.files.now c.args.file blank) own) (resolver.told c.in_err-names.field-0.0)) (c.as_slice.ensures.value ∙ c.in_ok-own.ensures) c.in_err-names.ensures)
    c.from_residual-in_err-names.ensures.1

pub returns : goal.returns
returns c =
    subst (λ a. Answers a c.write_name.result c.args.buffer.now c.write_name.new.buffer)
    (named_here c.args.model.now c.args.files.now c.args.file blank c.args.reference (length c.args.buffer.now)
    (recursion_from_All (λ b. b < 256) c.args.model.now (All-from_get_or (λ b. b < 256) c.args.model.now 0 (λ i h. omega (arith, (c.type_inv.model i).fits)))) c.requires.listed c.requires.there
    c.in_ok-names.names
    (subst (λ own. Named (resolution_in c.args.model.now (get_or c.args.files.now c.args.file blank) own) (uses_in (own_in c.args.model.now (get_or c.args.files.now c.args.file blank))) c.in_ok-names.names) (c.as_slice.ensures.value ∙ c.in_ok-own.ensures) c.in_ok-names.ensures))
    c.write_name.ensures
