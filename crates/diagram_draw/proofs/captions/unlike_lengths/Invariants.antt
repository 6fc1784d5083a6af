use Rattle.std.proofs.Common.{◌≡◌, ◌-◌, ◌≤◌}
use Rattle.diagram_draw.specs.Captions.{unlike_lengths}
use Rattle.diagram_draw.proofs.captions.unlike_lengths.Given as goal

abbrev pub invariant-loop-link : goal.invariant-loop-link
invariant-loop-link l = (1 ≤ l.link) × (l.unlike ≡ unlike_lengths l.artery (l.link - 1)) × (l.unlike ≤ l.link - 1)
