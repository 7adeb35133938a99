use Rattle.std.proofs.Common.{◌+◌, ◌-◌, ◌≤◌, [], ◌∷◌, arith, length, rules, vec_items, vec_len}
use Rattle.sink.specs.Texts.{Fitting}
use Rattle.sink.proofs.Lines.{lines-few, length-line}
use Rattle.sink.proofs.Offers.{fit_taken, fit_whole, fit_counted}
use Rattle.sink.proofs.buffering.BufferSinkSink.offer.Goals as goal
use Rattle.sink.proofs.buffering.BufferSinkSink.offer.Goals.{Else-not-fits_line}

fitting : (c : Else-not-fits_line) → Fitting (c.args.self.now.size - vec_len c.args.self.now.text) (c.args.line.now ∷ [])
fitting c = search rules

room_for : (c : Else-not-fits_line) → vec_len c.args.self.now.text + (length c.args.line.now + 1) ≤ c.args.self.now.size
room_for c = omega (arith, (fitting c).1, length-line c.args.line.now)

pub overflow_add-self : goal.overflow_add-self
overflow_add-self c =
    let room = room_for (goal.at.overflow_add-self c).Else-not-fits_line in
    omega (arith, lines-few (vec_items c.args.self.now.text) c.args.self.now.whole, c.args.self.now.text.ok.0)

pub invariant_of-self : goal.invariant_of-self
invariant_of-self c =
    let room = room_for (goal.at.invariant_of-self c).Else-not-fits_line in
    let text = vec_items c.args.self.now.text in
    let text' = vec_items c.append_line.new.text in
    let w = c.args.self.now.whole in
    let plain = (fitting (goal.at.invariant_of-self c).Else-not-fits_line).0.0 in
    let is = c.append_line.ensures.items in
    record {
      whole = fit_whole text text' c.args.line.now w plain is;
      counted = fit_counted text text' c.args.line.now w plain is c.args.self.now.lines c.args.self.now.counted;
      within = omega arith;
      reserved = omega arith;
    }

pub returns : goal.returns
returns c =
    let room = room_for (goal.at.returns c).Else-not-fits_line in
    fit_taken (vec_items c.args.self.now.text) (vec_items c.append_line.new.text) c.args.line.now (c.args.self.now.size - vec_len c.args.self.now.text) (c.args.self.now.size - vec_len c.append_line.new.text) c.args.self.now.whole (fitting (goal.at.returns c).Else-not-fits_line) c.append_line.ensures.items (omega arith)
