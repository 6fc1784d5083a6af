use Rattle.std.proofs.Common.{arith}
use Rattle.progression.specs.Street.{signal_of}
use Rattle.street_changes.specs.Changes.{signal_changes}
use Rattle.timing_measures.proofs.Pieces.{piece_next}
use Rattle.quantity_text.proofs.Pushed.{one_more}
use Rattle.std.proofs.lemmas.Grind.{common_steps}
use Rattle.street_changes.proofs.listing.push_signals.Goals as goal

pub loop-signal-preserved : goal.loop-signal-preserved
loop-signal-preserved c =
    one_more c.args.changes.now.items _ _ _ _ _ c.loop-signal.invariant c.in_ok-push_signal_at.ensures
    (piece_next (λ i. signal_changes i (signal_of c.args.artery.now i)) c.loop-signal.signal (omega arith))

pub returns-in_err-push_signal_at : goal.returns-in_err-push_signal_at
returns-in_err-push_signal_at c = grind (arith, common_steps)
