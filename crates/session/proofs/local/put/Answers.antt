use Rattle.std.proofs.Common.{length, refl}
use Rattle.session.proofs.Putting.{put_both, no_room}
use Rattle.session.proofs.local.put.Goals as goal

pub returns-then-buffer-all : goal.returns-then-buffer-all
returns-then-buffer-all c = (no_room c.args.bound.now c.args.rest.now (length c.args.buffer.now) c.if-buffer-all.true, refl)

pub returns : goal.returns
returns c =
    put_both c.args.bound.now c.args.rest.now c.args.buffer.now c.copy_from_slice.new.self c.copy_from_slice-2.new.self c.copy_from_slice.ensures.after c.copy_from_slice-2.ensures.after c.if-buffer-all.false
