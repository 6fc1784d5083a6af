use Rattle.std.proofs.Common.{◌++◌, ◌∙◌, codes}
use Rattle.std.proofs.lemmas.Result.{on_ok_weaker}
use Rattle.diagram_draw.specs.Captions.{width_facts}
use Rattle.quantity_text.proofs.Pushed.{three_pushed}
use Rattle.diagram_draw.proofs.captions.push_some_band.Goals as goal

pub returns : goal.returns
returns c =
    on_ok_weaker c.push_width_facts.result
    (λ e. three_pushed _ _ _ _ _ _ _ c.in_ok-push_text.ensures c.in_ok-push_text-2.ensures e
    ∙ (λ i. c.args.out.now.items ++ (codes " &#183; " ++ (c.dir_word.ensures i ++ width_facts c.args.artery.now c.args.timing.now c.args.dir))))
    c.push_width_facts.ensures
