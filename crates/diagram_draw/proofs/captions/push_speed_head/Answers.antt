use Rattle.std.proofs.Common.{◌++◌, ◌∙◌, ap, codes, append_assoc, sym, ℕ, List, pos}
use Rattle.std.proofs.lemmas.Result.{on_ok_weaker}
use Rattle.diagram_draw.specs.declared.paint.Letter.TheVariants.{HeadEnd}
use Rattle.diagram_draw.specs.Captions.{head_level, unit_of_speed}
use Rattle.diagram_draw.specs.Shapes.{words_opening, words_text}
use Rattle.quantity_text.proofs.Pushed.{four_pushed}
use Rattle.diagram_draw.proofs.captions.push_speed_head.Goals as goal

pub returns : goal.returns
unfolding words_text
returns c =
    on_ok_weaker c.push_words_end.result
    (λ e. four_pushed _ _ _ _ _ _ _ _ _ c.in_ok-push_opening.ensures c.in_ok-push_text.ensures c.in_ok-push_text-2.ensures e
    ∙ (λ i. c.args.out.now.items ++ (words_opening HeadEnd (pos c.args.x) head_level ++ (c.args.name.now ++ (c.unit_of_speed.ensures i ++ codes "</text>\n"))))
    ∙ ap (λ (w : List ℕ). c.args.out.now.items ++ (words_opening HeadEnd (pos c.args.x) head_level ++ w)) (sym (append_assoc c.args.name.now (unit_of_speed c.args.units) (codes "</text>\n"))))
    c.push_words_end.ensures
