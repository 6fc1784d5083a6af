use Rattle.std.proofs.Common.{◌<◌, ◌^◌}
use Rattle.fraction_tableau.proofs.narrowing.common_denominator.Given as goal

abbrev pub invariant-loop-index : goal.invariant-loop-index
invariant-loop-index l = record { above : 0 < l.common; short : l.common < 2 ^ 42 }
