use Rattle.std.proofs.Common.{◌≡◌, ◌+◌, replicate, pos}
use Rattle.rational_theory.specs.Rational.{whole}
use Rattle.fraction_tableau.proofs.fresh.zero_rows.Given as goal

abbrev pub invariant-loop : goal.invariant-loop
invariant-loop l = l.sparse_rows.items ≡ replicate l.counter (replicate (l.width + 1) (whole (pos 0)))
