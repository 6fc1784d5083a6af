use Rattle.std.proofs.Common.{◌++◌, ◌∙◌, codes}
use Rattle.std.proofs.lemmas.Result.{on_ok_weaker}
use Rattle.timing_words.specs.Numbers.{percent_text}
use Rattle.diagram_draw.specs.Captions.{width_facts, width_text}
use Rattle.quantity_text.proofs.Pushed.{five_pushed}
use Rattle.diagram_draw.proofs.captions.push_width_facts.Goals as goal

pub returns : goal.returns
unfolding width_facts
returns c =
    on_ok_weaker c.push_text-3.result
    (λ e. five_pushed _ _ _ _ _ _ _ _ _ _ _ c.in_ok-push_text.ensures c.in_ok-push_width.ensures c.in_ok-push_text-2.ensures c.in_ok-push_percent.ensures e
    ∙ (λ i. c.args.out.now.items ++ (codes " band " ++ (width_text (c.base.ensures i) (c.band.ensures.value i)
    ++ (codes " s = " ++ (percent_text c.args.artery.now c.args.timing.now c.args.dir ++ codes " % of the cycle"))))))
    c.push_text-3.ensures
