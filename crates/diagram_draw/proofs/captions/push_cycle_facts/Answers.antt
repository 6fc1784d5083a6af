use Rattle.std.proofs.Common.{◌++◌, ◌∙◌, codes}
use Rattle.std.proofs.lemmas.Result.{on_ok_weaker}
use Rattle.timing_words.specs.Numbers.{tenths}
use Rattle.diagram_draw.specs.Captions.{cycle_facts}
use Rattle.quantity_text.proofs.Pushed.{three_pushed}
use Rattle.diagram_draw.proofs.captions.push_cycle_facts.Goals as goal

pub returns : goal.returns
unfolding cycle_facts
returns c =
    on_ok_weaker c.push_text-2.result
    (λ e. three_pushed _ _ _ _ _ _ _ c.in_ok-push_text.ensures c.in_ok-push_tenths.ensures e
    ∙ (λ i. c.args.out.now.items ++ (codes "cycle " ++ (tenths (c.cycle_seconds.ensures.value i) ++ codes " s"))))
    c.push_text-2.ensures
