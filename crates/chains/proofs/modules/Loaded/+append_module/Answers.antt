use Rattle.std.proofs.Common.{rules, ◌≡◌, ◌-◌, ◌++◌, vec_items, refl, ap, ◌∙◌}
use Rattle.std.proofs.lemmas.Option.{slice_get_past, slice_get_read}
use Rattle.chains.specs.Chains.{before, own_in}
use Rattle.chains.proofs.Opened.{own-zero, own_missing, adds_none, held-before, none_before, adds_name}
use Rattle.chains.proofs.modules.Loaded.+append_module.Goals as goal
use Rattle.chains.proofs.modules.Loaded.+append_module.Goals.{in-Some-holder+in_ok-append_module+in_ok-push, in_default-holder}

pub returns-then-depth-eq0 : goal.returns-then-depth-eq0
returns-then-depth-eq0 t c =
    adds_none (vec_items c.args.out.now) _ (own-zero c.args.self.now.model.now c.args.self.now.files.now c.args.depth c.args.number c.if-depth-eq0.true)

pub returns-in_default : goal.returns-in_default
returns-in_default t c =
    adds_none (vec_items c.args.out.now) _ (own_missing c.args.self.now.model.now c.args.self.now.files.now c.args.depth c.args.number (slice_get_past c.args.self.now.files.now c.args.number (search rules)))

pub returns : goal.returns
returns t c =
    let dotted : vec_items c.match-file.out ≡ vec_items c.args.out.now ++ before c.in-Some.file.now.holder (own_in c.args.self.now.model.now c.args.self.now.files.now (c.args.depth - 1)) =
    elim c.match-file.branch [
      | in-Some-holder+in_ok-append_module+in_ok-push w ↦
          held-before c.args.self.now.model.now c.args.self.now.files.now (c.args.depth - 1) w.in-Some-holder.holder _ (vec_items c.args.out.now) (vec_items w.append_module.new.out) _
          w.in-Some-holder.is w.in_ok-append_module.ensures (ap vec_items w.out-is ∙ w.in_ok-push.ensures.items)
      | in_default-holder w ↦ none_before c.args.self.now.model.now c.args.self.now.files.now (c.args.depth - 1) _ (vec_items c.args.out.now) _ w.in_default-holder.is (ap vec_items w.out-is)
    ] in
    adds_name c.args.self.now.model.now c.args.self.now.files.now c.args.depth c.args.number c.in-Some.file.now (vec_items c.args.out.now) (vec_items c.match-file.out) c.at-header.result.name.now (vec_items c.extend_from_slice.new.self)
    c.if-depth-eq0.false (slice_get_read c.args.self.now.files.now _ c.args.number c.in-Some.file.now refl (search rules) (search rules)) dotted c.at-header.ensures.name c.in_ok-extend_from_slice.ensures.items
