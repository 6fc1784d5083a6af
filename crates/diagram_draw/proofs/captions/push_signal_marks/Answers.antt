use Rattle.std.proofs.lemmas.Result.{on_ok_weaker}
use Rattle.progression.specs.declared.parts.Dir.TheVariants.{Inbound, Outbound}
use Rattle.diagram_draw.specs.Captions.{marks_at, signal_marks}
use Rattle.diagram_draw.proofs.Chains.{two_rows}
use Rattle.diagram_draw.proofs.captions.push_signal_marks.Goals as goal

pub returns : goal.returns
unfolding signal_marks
returns c =
    on_ok_weaker c.push_marks_at-2.result
    (two_rows _ _ _ (marks_at c.args.frame c.args.artery.now c.args.timing.now Outbound c.args.signal) (marks_at c.args.frame c.args.artery.now c.args.timing.now Inbound c.args.signal)
    c.in_ok-push_marks_at.ensures)
    c.push_marks_at-2.ensures
