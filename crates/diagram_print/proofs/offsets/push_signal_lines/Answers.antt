use Rattle.std.proofs.Common.{arith}
use Rattle.diagram_print.specs.Offsets.{signal_line}
use Rattle.timing_measures.proofs.Pieces.{piece_next}
use Rattle.quantity_text.proofs.Pushed.{one_more}
use Rattle.std.proofs.lemmas.Grind.{common_steps}
use Rattle.diagram_print.proofs.offsets.push_signal_lines.Goals as goal

pub loop-signal-preserved : goal.loop-signal-preserved
loop-signal-preserved c =
    one_more c.args.out.now.items _ _ _ _ _ c.loop-signal.invariant c.in_ok-push_signal_line.ensures (piece_next (signal_line c.args.artery.now c.args.base.now) c.loop-signal.signal (omega arith))

pub returns-in_err-push_signal_line : goal.returns-in_err-push_signal_line
returns-in_err-push_signal_line c = grind (arith, common_steps)
