use Rattle.std.proofs.Common.{◌≡◌, ◌++◌, take}
use Rattle.std.specs.List.{flat_map}
use Rattle.plan_text.proofs.Written.{spaced}
use Rattle.plan_text.proofs.writing.push_spelled.Given as goal

abbrev pub invariant-loop-number : goal.invariant-loop-number
invariant-loop-number l = l.out.items ≡ (l.fn.out.items ++ l.key) ++ flat_map spaced (take l.number-index l.numbers)
