use Rattle.std.proofs.Common.{sym, ◌∙◌}
use Rattle.narrow_fraction.proofs.Parts.{zero_over}
use Rattle.narrow_fraction.proofs.quotient.Quotient.numerator_apart.Goals as goal

pub returns-then-is_zero : goal.returns-then-is_zero
returns-then-is_zero c = c.is_zero.ensures.0 c.if-is_zero.true ∙ sym (zero_over c.args.denominator c.requires)
