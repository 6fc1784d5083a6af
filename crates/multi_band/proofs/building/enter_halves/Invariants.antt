use Rattle.std.proofs.Common.{◌-◌}
use Rattle.progression.specs.Street.{count}
use Rattle.program_builder.proofs.StartPivots.{IsOnTheWay}
use Rattle.multi_band.specs.LinkOpening.{half_pivots, link_pivots}
use Rattle.multi_band.proofs.building.enter_halves.Given as goal

-- the pivots that are left
abbrev pub invariant-loop-link : goal.invariant-loop-link
invariant-loop-link l = IsOnTheWay (link_pivots l.artery) l.fn.tableau l.tableau (half_pivots l.artery l.link (count l.artery - l.link))
