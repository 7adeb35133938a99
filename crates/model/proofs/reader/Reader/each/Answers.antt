use Rattle.model.proofs.Going.{goes_by, listed_by}
use Rattle.model.proofs.Repeating.{goes_laps}
use Rattle.model.proofs.reader.Reader.each.Goals as goal

pub returns : goal.returns
returns g c = λ one calls.
    goes_by _ record { at = c.count.new.self; found = c.args.self.now.found } _ c.times.result _ _ (listed_by one c.args.stands _ c.count.new.self c.args.self.now.found c.in_ok-n.n c.if-not-stands.false c.in_ok-n.ensures) c.in_ok-n.ensures.end (goes_laps g.F.Fn c.args.item one calls c.in_ok-n.n _ _ c.times.result c.times.ensures)
