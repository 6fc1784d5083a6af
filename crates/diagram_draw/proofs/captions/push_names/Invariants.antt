use Rattle.std.proofs.Common.{◌≡◌, ◌++◌, ◌-◌, ◌≤◌, map}
use Rattle.std.specs.List.{range_with_len}
use Rattle.diagram_draw.specs.Shapes.{sizeds_text}
use Rattle.diagram_draw.specs.Captions.{name_caption}
use Rattle.diagram_draw.proofs.captions.push_names.Given as goal

abbrev pub invariant-loop-signal : goal.invariant-loop-signal
invariant-loop-signal l = (1 ≤ l.signal) × (l.out.items ≡ l.fn.out.items ++ sizeds_text (map (name_caption l.frame l.artery) (range_with_len 1 (l.signal - 1))))
