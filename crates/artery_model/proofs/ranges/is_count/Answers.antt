use Rattle.std.proofs.Common.{rules, tests}
use Rattle.artery_model.proofs.ranges.is_count.Goals as goal

pub returns-then-count-ge-LEAST_SIGNALS-2 : goal.returns-then-count-ge-LEAST_SIGNALS-2
returns-then-count-ge-LEAST_SIGNALS-2 c = search (tests, rules)
