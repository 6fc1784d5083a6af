use Rattle.std.proofs.Common.{arith}
use Rattle.time_space.proofs.Remainders.{first_at_once, first_at_one, first_past_end, none_until_end}
use Rattle.time_space.proofs.ticks.first_shut.Goals as goal

pub returns-then-since-red : goal.returns-then-since-red
returns-then-since-red c = first_at_once _ _ _ _ c.requires.cycle (omega arith) c.if-since-red.true

pub returns-else-band-eq0 : goal.returns-else-band-eq0
returns-else-band-eq0 c = grind (arith, first_at_one, first_at_once, first_past_end, none_until_end)

pub returns-else-band-cycle : goal.returns-else-band-cycle
returns-else-band-cycle c = grind (arith, first_at_one, first_at_once, first_past_end, none_until_end)
