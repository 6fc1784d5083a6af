use Rattle.std.proofs.Common.{◌≡◌, take}
use Rattle.plan_text.proofs.writing.widened.Given as goal

abbrev pub invariant-loop-pattern : goal.invariant-loop-pattern
invariant-loop-pattern l = l.wide.items ≡ take l.pattern-index l.patterns
