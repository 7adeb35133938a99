use Rattle.std.proofs.Common.{◌∙◌, ap}
use Rattle.std.specs.Str.{bytes_eq}
use Rattle.model.specs.Uses.{builtins}
use Rattle.verdict.proofs.Roots.{root_is, same_bytes}
use Rattle.verdict.proofs.rules.root_named.Goals as goal

pub returns-in-Some : goal.returns-in-Some
returns-in-Some c =
    root_is c.args.modules.now c.in-Some.root.now _ c.in-Some.ensures.value (c.if-eq.ensures ∙ ap (bytes_eq c.in-Some.root.now.name.now) c.as_slice.ensures ∙ same_bytes c.in-Some.root.now.name.now builtins)

pub returns-in_default : goal.returns-in_default
returns-in_default c =
    root_is c.args.modules.now c.in-Some.root.now _ c.in-Some.ensures.value (c.if-eq.ensures ∙ ap (bytes_eq c.in-Some.root.now.name.now) c.as_slice.ensures ∙ same_bytes c.in-Some.root.now.name.now builtins)
