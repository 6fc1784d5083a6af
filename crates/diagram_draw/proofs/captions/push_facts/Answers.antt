use Rattle.std.proofs.lemmas.Result.{on_ok_weaker}
use Rattle.diagram_draw.specs.Captions.{facts_text}
use Rattle.quantity_text.proofs.Pushed.{four_pushed}
use Rattle.diagram_draw.proofs.captions.push_facts.Goals as goal

pub returns : goal.returns
unfolding facts_text
returns c =
    on_ok_weaker c.push_weighted_facts.result
    (four_pushed _ _ _ _ _ _ _ _ _ (rw c.base.ensures at c.in_ok-push_cycle_facts.ensures) c.in_ok-push_band_facts.ensures c.in_ok-push_band_facts-2.ensures)
    c.push_weighted_facts.ensures
