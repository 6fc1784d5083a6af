use Rattle.std.proofs.Common.{◌≡◌, None}
use Rattle.narrow_fraction.specs.Attempt.{first_below}
use Rattle.named_row.specs.Covering.{below, number_at}
use Rattle.named_row.proofs.cells.none_below.Given as goal

abbrev pub invariant-loop-column : goal.invariant-loop-column
invariant-loop-column l = first_below (λ j. below (number_at l.coefs j) (number_at l.goal j) j) l.column ≡ None
