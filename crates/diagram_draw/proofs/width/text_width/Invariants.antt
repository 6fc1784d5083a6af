use Rattle.std.proofs.Common.{◌≡◌, ◌+◌, ◌*◌, ◌≤◌, drop}
use Rattle.diagram_draw.specs.Widths.{text_width}
use Rattle.diagram_draw.proofs.width.text_width.Given as goal

abbrev pub invariant-loop-byte : goal.invariant-loop-byte
invariant-loop-byte l = (l.width + text_width (drop l.byte-index l.text) ≡ text_width l.text) × (l.width ≤ l.byte-index * 1000)
