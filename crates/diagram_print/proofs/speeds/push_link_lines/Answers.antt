use Rattle.std.proofs.Common.{◌≡◌, ◌-◌, ◌++◌, flat_map, ap, ◌∙◌, arith}
use Rattle.std.specs.List.{range_with_len}
use Rattle.progression.specs.Street.{count}
use Rattle.diagram_print.specs.Speeds.{speed_lines}
use Rattle.timing_measures.proofs.Pieces.{piece_next}
use Rattle.quantity_text.proofs.Pushed.{one_more}
use Rattle.diagram_print.proofs.speeds.push_link_lines.Goals as goal

pub loop-link-preserved : goal.loop-link-preserved
loop-link-preserved c =
    one_more c.args.out.now.items _ _ _ _ _ c.loop-link.invariant c.in_ok-push_speed_lines.ensures (piece_next (speed_lines c.args.artery.now c.args.base.now) c.loop-link.link (omega arith))

pub returns : goal.returns
returns c =
    let f = speed_lines c.args.artery.now c.args.base.now in
    let end : c.loop-link.link ≡ count c.args.artery.now = omega arith in
    c.loop-link.invariant ∙ ap (λ n. c.args.out.now.items ++ flat_map f (range_with_len 1 (n - 1))) end
