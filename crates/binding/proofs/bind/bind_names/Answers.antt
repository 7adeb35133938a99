use Rattle.std.proofs.Common.{◌≤◌, [], map, length, get_or, ap, arith}
use lib.ListN.{get_or-map}
use lib.ListN.{length-map}
use Rattle.std.specs.Map.{lookup}
use Rattle.std.specs.Ordering.{is_eq}
use Rattle.model.specs.declared.uses.Reference.{Reference as ReferenceOf}
use Rattle.references.specs.References.{pair_of}
use Rattle.references.specs.Kept.{reference_cmp}
use Rattle.binding.proofs.Declaring.{declared-sound}
use Rattle.binding.proofs.Folding.{folds_none, folds_more, folds_stop, folds_bound, folds_renames, binds_some, binds_none}
use Rattle.binding.proofs.bind.bind_names.Goals as goal

abbrev blank : ReferenceOf
blank = record { from = record { ref_ptr = (0, 0); now = [] }; name = record { ref_ptr = (0, 0); now = [] } }

pub loop-r-init : goal.loop-r-init
loop-r-init c =
    folds_none _ _ c.in_ok-binder.binder c.new-renaming.result (declared-sound _ _ c.in_ok-binder.binder c.in_ok-binder.ensures) c.new-renaming.ensures.ordered (λ q. ap (lookup (λ k. is_eq (reference_cmp q k))) c.new-renaming.ensures.empty) c.in_ok-binder.ensures.bindings

pub bind-requires : goal.bind-requires
bind-requires c = c.loop-r.invariant.sound

pub loop-r-preserved : goal.loop-r-preserved
loop-r-preserved c =
    let r = get_or c.args.references.now c.loop-r.r-index blank in
    folds_more _ (map pair_of c.args.references.now) c.loop-r.r-index (pair_of blank) c.loop-r.binder c.bind.new.self c.loop-r.renaming c.insert.new.self r c.in-Some.name
    (omega (arith, length-map c.args.references.now pair_of, c.loop-r-test.true)) (get_or-map pair_of c.args.references.now c.loop-r.r-index blank) c.loop-r.invariant
    (binds_some c.loop-r.binder c.bind.new.self _ _ c.in_ok-name.field-0 c.in-Some.name (ap (λ w. (r.from.now, w)) c.split_root.ensures.root) c.in-Some.is c.in_ok-name.ensures)
    c.in_ok-insert.ensures.updates c.insert.ensures.ordered

pub returns-in_default : goal.returns-in_default
returns-in_default c =
    let r = get_or c.args.references.now c.loop-r.r-index blank in
    folds_stop _ (map pair_of c.args.references.now) c.loop-r.r-index (pair_of blank) c.loop-r.binder c.loop-r.renaming r
    (omega (arith, length-map c.args.references.now pair_of, c.loop-r-test.true)) (get_or-map pair_of c.args.references.now c.loop-r.r-index blank) c.loop-r.invariant
    (binds_none c.loop-r.binder c.bind.new.self _ _ c.in_ok-name.field-0 (ap (λ w. (r.from.now, w)) c.split_root.ensures.root) c.in_default.is c.in_ok-name.ensures)

pub returns : goal.returns
returns c =
    let past : length (map pair_of c.args.references.now) ≤ c.loop-r.r-index = omega (arith, length-map c.args.references.now pair_of, c.loop-r-test.false) in
    record {
      bindings = folds_bound _ _ c.loop-r.r-index c.loop-r.binder c.loop-r.renaming past c.loop-r.invariant;
      renames = folds_renames _ _ c.loop-r.r-index c.loop-r.binder c.loop-r.renaming past c.loop-r.invariant;
    }

pub invariant_of-result : goal.invariant_of-result
invariant_of-result c = record { sorted = c.loop-r.invariant.ordered }
