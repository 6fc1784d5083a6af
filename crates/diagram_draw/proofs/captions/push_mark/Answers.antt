use Rattle.std.proofs.Common.{◌++◌, ◌∙◌, codes, rules}
use Rattle.std.specs.Int.{w128}
use Rattle.std.proofs.lemmas.Int.{to_z-of_z}
use Rattle.std.proofs.lemmas.Result.{on_ok_weaker}
use Rattle.diagram_draw.specs.declared.paint.Letter.TheVariants.{Mark}
use Rattle.timing_words.specs.Numbers.{seconds_text}
use Rattle.diagram_draw.specs.Shapes.{words_opening, words_text}
use Rattle.quantity_text.proofs.Pushed.{three_pushed}
use Rattle.diagram_draw.proofs.captions.push_mark.Goals as goal

pub returns : goal.returns
unfolding words_text
returns c =
    let x = to_z-of_z w128 c.step_begin-x.result (search rules) ∙ c.step_begin-x.ensures in
    let y = to_z-of_z w128 c.mark_level-y.result (search rules) ∙ c.mark_level-y.ensures in
    let ticks = rw c.base-base.ensures at c.step_ticks.ensures.value in
    on_ok_weaker c.push_words_end.result
    (λ e. three_pushed _ _ _ _ _ _ _ c.in_ok-push_words_opening.ensures c.in_ok-push_some_seconds.ensures e
    ∙ (λ i. c.args.out.now.items ++ (words_opening Mark (x i) (y i) ++ ((seconds_text (c.base-base.ensures i) (ticks i) ++ codes " s") ++ codes "</text>\n"))))
    c.push_words_end.ensures
