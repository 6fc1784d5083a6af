use Rattle.std.proofs.Common.{◌+◌}
use Rattle.narrow_fraction.proofs.compare.+compare_sizes.Given as goal

abbrev pub decreases-compare_sizes : goal.decreases-compare_sizes
decreases-compare_sizes l = l.b + l.d
