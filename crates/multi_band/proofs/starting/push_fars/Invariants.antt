use Rattle.std.proofs.Common.{◌≡◌, ◌++◌, ◌-◌}
use Rattle.multi_band.specs.LinkStarts.{far_weights}
use Rattle.multi_band.proofs.starting.push_fars.Given as goal

abbrev pub invariant-loop-link : goal.invariant-loop-link
invariant-loop-link l = l.list.items ≡ l.fn.list.items ++ far_weights l.fn.dir l.fn.by 1 (l.link - 1)
