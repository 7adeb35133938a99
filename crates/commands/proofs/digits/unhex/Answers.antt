use Rattle.std.proofs.Common.{◌∙◌, sym, inl, inr, ap, arith, rules}
use Rattle.commands.proofs.Decoded.{read_or_none, decoded_same, even_some, decoded_some, kept_same, no_digit_none}
use Rattle.commands.proofs.digits.unhex.Goals as goal

pub returns-in-Ok-clause-value : goal.returns-in-Ok-clause-value
returns-in-Ok-clause-value c = search (rules, kept_same c.args.text.now _ c.in-Ok.ensures.ok)

-- where the bytes were read, memory may lack for what is done with them: a body is judged by its value there too
pub returns-in-Ok-clause-digits : goal.returns-in-Ok-clause-digits
returns-in-Ok-clause-digits c = search (rules, decoded_some c.args.text.now _ c.in-Ok.ensures.ok)

pub returns-in_default-clause-value : goal.returns-in_default-clause-value
returns-in_default-clause-value c =
    elim c.in-Err.ensures.err [
      | inl e ↦ absurd (c.in_default.not-OutOfMemory e)
      | inr e ↦ sym (ap read_or_none e) ∙ decoded_same c.args.text.now
    ]

pub returns-then-not-are_digits-clause-value : goal.returns-then-not-are_digits-clause-value
returns-then-not-are_digits-clause-value c = sym (no_digit_none c.args.text.now (sym c.if-not-are_digits.ensures))

pub returns-in-OutOfMemory-clause-digits : goal.returns-in-OutOfMemory-clause-digits
returns-in-OutOfMemory-clause-digits c =
    even_some c.args.text.now (λ odd. let wrong = c.in-Err.ensures.odd odd in grind (arith, wrong, c.in-OutOfMemory.is)) ∙ sym c.if-not-are_digits.ensures
