use Rattle.std.proofs.lemmas.Result.{on_ok_weaker}
use Rattle.diagram_draw.specs.Captions.{above, cycle_numbers, link_heads, signal_heads}
use Rattle.diagram_draw.proofs.Chains.{three_rows}
use Rattle.diagram_draw.proofs.captions.push_above.Goals as goal

pub returns : goal.returns
unfolding above
returns c =
    on_ok_weaker c.push_cycle_numbers.result
    (three_rows _ _ _ _ (signal_heads c.args.frame) (link_heads c.args.frame c.args.artery.now) (cycle_numbers c.args.frame) c.in_ok-push_signal_heads.ensures c.in_ok-push_link_heads.ensures)
    c.push_cycle_numbers.ensures
