use Rattle.std.proofs.Common.{◌++◌, ◌∙◌, codes}
use Rattle.std.proofs.lemmas.Result.{on_ok_weaker}
use Rattle.quantity_text.proofs.Pushed.{three_pushed}
use Rattle.diagram_draw.proofs.captions.push_no_band.Goals as goal

pub returns : goal.returns
returns c =
    on_ok_weaker c.push_text-3.result
    (λ e. three_pushed _ _ _ _ _ _ _ c.in_ok-push_text.ensures c.in_ok-push_text-2.ensures e
    ∙ (λ i. c.args.out.now.items ++ (codes " &#183; no " ++ (c.dir_word.ensures i ++ codes " band"))))
    c.push_text-3.ensures
