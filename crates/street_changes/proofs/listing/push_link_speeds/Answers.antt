use Rattle.std.proofs.Common.{arith}
use Rattle.street_changes.specs.Changes.{speed_changes}
use Rattle.timing_measures.proofs.Pieces.{piece_next}
use Rattle.quantity_text.proofs.Pushed.{one_more}
use Rattle.std.proofs.lemmas.Grind.{common_steps}
use Rattle.street_changes.proofs.listing.push_link_speeds.Goals as goal

pub loop-link-preserved : goal.loop-link-preserved
loop-link-preserved c =
    one_more c.args.changes.now.items _ _ _ _ _ c.loop-link.invariant c.in_ok-push_speeds.ensures (piece_next speed_changes c.loop-link.link (omega arith))

pub returns-in_err-push_speeds : goal.returns-in_err-push_speeds
returns-in_err-push_speeds c = grind (arith, common_steps)
