use Rattle.std.proofs.Common.{map, ap, ◌∙◌}
use Rattle.model.specs.Steps.{use_of, declared_of}
use Rattle.references.specs.References.{pair_of}
use Rattle.walk.specs.Total.{own_in}
use Rattle.walk.specs.Collects.{uses_in, declared_in}
use Rattle.resolver.proofs.Resolving.{refused-undeclared, resolved-names, refused-exhausted}
use Rattle.resolver.proofs.names.resolve.Goals as goal

pub returns-in-Some : goal.returns-in-Some
returns-in-Some c =
    let o = own_in c.args.model.now c.args.file in
    refused-undeclared c.args.own.now (declared_in o) (map declared_of c.as_slice-declared.result.now) (uses_in o) (map use_of c.as_slice-uses.result.now)
    (ap (map declared_of) c.as_slice-declared.ensures.value ∙ c.in_ok-found.ensures.declared) (ap (map use_of) c.as_slice-uses.ensures.value ∙ c.in_ok-found.ensures.uses)
    c.in_ok-undeclared.undeclared c.in_ok-undeclared.ensures c.in-Some.place c.in-Some.is

pub returns-in-Ok : goal.returns-in-Ok
returns-in-Ok c =
    let o = own_in c.args.model.now c.args.file in
    resolved-names c.args.own.now (declared_in o) (map declared_of c.as_slice-declared.result.now) (uses_in o) (map use_of c.as_slice-uses.result.now)
    (ap (map declared_of) c.as_slice-declared.ensures.value ∙ c.in_ok-found.ensures.declared) (ap (map use_of) c.as_slice-uses.ensures.value ∙ c.in_ok-found.ensures.uses)
    c.in_ok-undeclared.undeclared c.in_ok-undeclared.ensures c.in_default.is
    (map pair_of c.as_slice.result.now) (ap (map pair_of) c.as_slice.ensures.value ∙ c.in_ok-references.ensures) c.in-Ok.names
    c.in-Ok.ensures

pub returns-in-Err-Exhausted : goal.returns-in-Err-Exhausted
returns-in-Err-Exhausted c =
    let o = own_in c.args.model.now c.args.file in
    refused-exhausted c.args.own.now (declared_in o) (map declared_of c.as_slice-declared.result.now) (uses_in o) (map use_of c.as_slice-uses.result.now)
    (ap (map declared_of) c.as_slice-declared.ensures.value ∙ c.in_ok-found.ensures.declared) (ap (map use_of) c.as_slice-uses.ensures.value ∙ c.in_ok-found.ensures.uses)
    c.in_ok-undeclared.undeclared c.in_ok-undeclared.ensures c.in_default.is
    (map pair_of c.as_slice.result.now) (ap (map pair_of) c.as_slice.ensures.value ∙ c.in_ok-references.ensures) (pair_of c.in-Err-Exhausted.reference)
    (rw c.in-Err-Exhausted.field-0-is at c.in-Err-Exhausted.ensures)
    c.first_use.result c.unwrap_or-place.result c.first_use.ensures c.unwrap_or-place.ensures
