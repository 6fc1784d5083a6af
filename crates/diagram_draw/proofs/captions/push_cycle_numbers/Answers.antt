use Rattle.std.proofs.Common.{refl, ◌++◌, ◌∙◌, map}
use Rattle.std.specs.List.{range_with_len}
use Rattle.diagram_draw.specs.Shapes.{caption_text, captions_text}
use Rattle.diagram_draw.specs.Captions.{cycle_number}
use Rattle.diagram_draw.proofs.Chains.{text_written_up, ends_up}
use Rattle.diagram_draw.proofs.captions.push_cycle_numbers.Goals as goal

pub loop-cycles-preserved : goal.loop-cycles-preserved
loop-cycles-preserved c =
    text_written_up caption_text c.args.out.now.items _ _ c.loop-cycles.cycles c.loop-cycles.invariant.0 (cycle_number c.args.frame) c.in_ok-push_cycle_number.ensures c.loop-cycles.invariant.1

pub returns : goal.returns
returns c =
    let f = cycle_number c.args.frame in
    c.loop-cycles.invariant.1
    ∙ ends_up (λ n. c.args.out.now.items ++ captions_text (map f (range_with_len 1 n))) _ _ _ c.loop-cycles.auto.cycles-end c.loop-cycles-test.false refl
