use Rattle.std.proofs.Common.{◌≡◌, None, pos}
use Rattle.rational_theory.specs.Rational.{whole}
use Rattle.narrow_fraction.specs.Attempt.{first_below}
use Rattle.named_row.specs.Covering.{below, number_at}
use Rattle.named_row.proofs.cells.none_negative.Given as goal

abbrev pub invariant-loop-column : goal.invariant-loop-column
invariant-loop-column l = first_below (λ j. below (number_at l.coefs j) (whole (pos 0)) j) l.column ≡ None
