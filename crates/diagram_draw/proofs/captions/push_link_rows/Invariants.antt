use Rattle.std.proofs.Common.{◌≡◌, ◌++◌, ◌-◌, ◌≤◌, flat_map}
use Rattle.std.specs.List.{range_with_len}
use Rattle.diagram_draw.specs.Shapes.{captions_text}
use Rattle.diagram_draw.specs.Captions.{link_row}
use Rattle.diagram_draw.proofs.captions.push_link_rows.Given as goal

abbrev pub invariant-loop-link : goal.invariant-loop-link
invariant-loop-link l = (1 ≤ l.link) × (l.out.items ≡ l.fn.out.items ++ captions_text (flat_map (link_row l.frame l.artery l.base) (range_with_len 1 (l.link - 1))))
