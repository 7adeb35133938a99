use Rattle.std.proofs.Common.{List, map, vec_items, refl, ap, ◌∙◌}
use Rattle.std.proofs.lemmas.List.{map_push}
use Rattle.model.specs.declared.uses.Use.{Use}
use Rattle.model.specs.Steps.{use_of}
use Rattle.walk.proofs.walker.Walker.note.Goals as goal

pub returns : goal.returns
returns c =
    record { rest = refl; end = refl; uses = ap (λ (xs : List Use). map use_of xs) c.in_ok-push.ensures.items ∙ map_push use_of (vec_items c.args.self.now.uses) _ }
