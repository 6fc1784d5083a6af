use Rattle.std.proofs.Common.{◌++◌, ◌∙◌, pos, ◌-◌, []}
use Rattle.std.specs.Fmt.{decimal}
use Rattle.std.proofs.lemmas.Result.{on_ok_weaker}
use Rattle.diagram_draw.specs.declared.paint.Letter.TheVariants.{Number}
use Rattle.diagram_draw.specs.Captions.{offset_text, pattern_text, signal_row}
use Rattle.diagram_draw.specs.Shapes.{words_text}
use Rattle.diagram_draw.proofs.Chains.{three_listed}
use Rattle.diagram_draw.proofs.captions.push_signal_row.Goals as goal

pub returns : goal.returns
unfolding signal_row
returns c =
    let y = c.row_level-y.ensures in
    on_ok_weaker c.push_offset_words.result
    (λ e. three_listed _ _ _ _ _ _ _ c.in_ok-push_number_words.ensures c.in_ok-push_pattern_words.ensures e
    ∙ (λ i. c.args.out.now.items ++ (words_text Number (pos 330) (y i) (decimal c.args.signal)
    ++ (words_text Number (pos (c.args.frame.left - 760)) (y i) (pattern_text c.args.artery.now c.args.base.now c.args.signal)
    ++ (words_text Number (pos (c.args.frame.left - 170)) (y i) (offset_text c.args.artery.now c.args.base.now c.args.signal) ++ [])))))
    c.push_offset_words.ensures
