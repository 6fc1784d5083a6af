use Rattle.std.proofs.lemmas.Result.{on_ok_weaker}
use Rattle.diagram_draw.specs.Captions.{beside, link_rows, signal_rows}
use Rattle.diagram_draw.proofs.Chains.{two_rows}
use Rattle.diagram_draw.proofs.captions.push_beside.Goals as goal

pub returns : goal.returns
unfolding beside
returns c = on_ok_weaker c.push_link_rows.result (two_rows _ _ _ (signal_rows c.args.frame c.args.artery.now c.args.base.now)
    (link_rows c.args.frame c.args.artery.now c.args.base.now) c.in_ok-push_signal_rows.ensures) c.push_link_rows.ensures
