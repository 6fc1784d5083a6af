use Rattle.std.proofs.Common.{◌≡◌, take}
use Rattle.plan_text.proofs.reading.patterns_of.Given as goal

abbrev pub invariant-loop-number : goal.invariant-loop-number
invariant-loop-number l = l.patterns.items ≡ take l.number-index l.numbers
