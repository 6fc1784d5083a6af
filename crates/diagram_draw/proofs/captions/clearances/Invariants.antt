use Rattle.std.proofs.Common.{◌≡◌, ◌-◌, ◌*◌, ◌≤◌}
use Rattle.diagram_draw.specs.Captions.{clearances}
use Rattle.diagram_draw.proofs.captions.clearances.Given as goal

abbrev pub invariant-loop-link : goal.invariant-loop-link
invariant-loop-link l = (1 ≤ l.link) × (l.parts ≡ clearances l.artery (l.link - 1)) × (l.parts ≤ (l.link - 1) * 2000000)
