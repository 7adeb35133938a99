use Rattle.std.proofs.Common.{◌≡◌, ◌+◌, ◌∷◌, [], drop, arith, length, length-take, subst, take, ℕ}
use Rattle.std.proofs.lemmas.List.{take_rest}
use Rattle.sink.specs.Sinks.{Taking}
use Rattle.sink.specs.Texts.{Matching, Whole, lines_in}
use Rattle.sink.proofs.Lines.{lines-few}
use Rattle.sink.proofs.Offers.{match_within, match_taken, match_whole, match_counted}
use Rattle.sink.proofs.comparing.ComparingSinkSink.offer.Goals as goal
use Rattle.sink.proofs.comparing.ComparingSinkSink.offer.Goals.{Else-not-begins_line}

matching : (c : Else-not-begins_line) → Matching (drop c.args.self.now.at c.args.self.now.expected.now) (c.args.line.now ∷ [])
matching c =
    rw (take_rest c.args.self.now.expected.now c.args.self.now.at) at (c.begins_line.ensures.0 c.if-not-begins_line.false)

pub overflow_add-self-3 : goal.overflow_add-self-3
overflow_add-self-3 c =
    let within = match_within c.args.self.now.expected.now c.args.line.now c.args.self.now.at (matching c) in
    omega (arith, lines-few (take c.args.self.now.at c.args.self.now.expected.now) c.args.self.now.whole, length-take {A = ℕ})

pub invariant_of-self : goal.invariant_of-self
invariant_of-self c =
    let m = matching c in
    let text = c.args.self.now.expected.now in
    let line = c.args.line.now in
    let at = c.args.self.now.at in
    let w = c.args.self.now.whole in
    record {
      within = omega (arith, match_within text line at m);
      whole = subst (λ k. Whole (take k text)) (omega arith) (match_whole text line at m w);
      counted = subst (λ k. c.args.self.now.lines + 1 ≡ length (lines_in (take k text))) (omega arith) (match_counted text line at m w c.args.self.now.lines c.args.self.now.counted);
    }

pub returns-clause-answer : goal.returns-clause-answer
returns-clause-answer c =
    let text = c.args.self.now.expected.now in
    let line = c.args.line.now in
    let at = c.args.self.now.at in
    subst (λ k. Taking (lines_in (take at text)) (Matching (drop at text)) (line ∷ []) (lines_in (take k text)) (Matching (drop k text))) (omega arith)
    (match_taken text line at (matching (goal.at.returns-clause-answer c).Else-not-begins_line) c.args.self.now.whole)
