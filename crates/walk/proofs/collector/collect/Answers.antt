use Rattle.std.proofs.Common.{rules, [], ◌∷◌, map, ap, refl}
use Rattle.model.specs.Maps.{map_of}
use Rattle.model.specs.Tree.{no_class, add_class}
use Rattle.model.specs.Steps.{use_of, declared_of}
use Rattle.model.specs.Uses.{class_declared}
use Rattle.walk.specs.Total.{function, attribute, one_class}
use Rattle.walk.specs.Puts.{Gathered, class_put, function_put, attribute_put, own_classes_put, own_functions_put, own_attributes_put, function_declared, attribute_declared}
use Rattle.walk.proofs.Gathering.{collects}
use Rattle.walk.proofs.Repeating.{owned}
use Rattle.walk.proofs.collector.collect.Goals as goal

pub returns : goal.returns
returns c =
    let x = owned no_class add_class (λ end. one_class end 64) class_put class_declared own_classes_put (λ x. refl) (λ a l x. refl) _ _ _ (record { walker = record { at = c.at-2.result; uses = c.new.result }; declared = c.new-2.result }) _ c.in_ok-own.ensures (λ x y d h. search rules) in
    let y = owned [] ◌∷◌ (λ end. function end 64) function_put function_declared own_functions_put (λ x. refl) (λ a l x. refl) _ _ _ c.own.new.self _ c.in_ok-own-2.ensures (λ x y d h. search rules) in
    let z = owned [] ◌∷◌ (λ end. attribute end 64) attribute_put attribute_declared own_attributes_put (λ x. refl) (λ a l x. refl) _ _ _ c.own-2.new.self _ c.in_ok-own-3.ensures (λ x y d h. search rules) in
    let e = collects c.args.model.now c.args.file c.at.result.rest.now (map_of c.fields-fields.result) c.has.result c.has-2.result c.has-3.result _ _ _ _ _ _ _ _ c.at.ensures.rest c.fields-fields.ensures.is c.at-2.ensures.rest c.at-2.ensures.end (λ i. (map use_of (c.new.ensures.items i), map declared_of (c.new-2.ensures.items i))) c.has.ensures c.has-2.ensures c.has-3.ensures x y z in
    record { uses = ap (λ (s : Gathered). s.0) e; declared = ap (λ (s : Gathered). s.1) e }
