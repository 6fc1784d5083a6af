use Rattle.std.proofs.Common.{◌≡◌, map, take}
use Rattle.speed_steps.specs.Moved.{link_moved}
use Rattle.speed_steps.proofs.street.links_moved.Given as goal

abbrev pub invariant-loop-link : goal.invariant-loop-link
invariant-loop-link l = l.all.items ≡ map (link_moved l.way l.units) (take l.link-index l.links)
