use Rattle.std.proofs.Common.{◌++◌, ◌∙◌, ap, codes, pos, rules, ◌+◌}
use Rattle.std.specs.Fmt.{decimal}
use Rattle.std.specs.Int.{w128}
use Rattle.std.proofs.lemmas.Int.{to_z-of_z}
use Rattle.std.proofs.lemmas.Result.{on_ok_weaker}
use Rattle.diagram_draw.specs.declared.paint.Letter.TheVariants.{Axis}
use Rattle.diagram_draw.specs.Shapes.{words_opening, words_text}
use Rattle.quantity_text.proofs.Pushed.{three_pushed}
use Rattle.diagram_draw.proofs.captions.push_second_number.Goals as goal

pub returns : goal.returns
unfolding words_text
returns c =
    let x = to_z-of_z w128 c.second_x-x.result (search rules) ∙ c.second_x-x.ensures in
    let y = to_z-of_z w128 c.from-y.result (search rules) ∙ c.from-y.ensures ∙ ap (λ n. pos (n + 210)) c.plot_bottom.ensures.value in
    on_ok_weaker c.push_words_end.result
    (λ e. three_pushed _ _ _ _ _ _ _ c.in_ok-push_words_opening.ensures c.in_ok-push_number.ensures e
    ∙ (λ i. c.args.out.now.items ++ (words_opening Axis (x i) (y i) ++ (decimal (c.second_at.ensures.value i) ++ codes "</text>\n"))))
    c.push_words_end.ensures
