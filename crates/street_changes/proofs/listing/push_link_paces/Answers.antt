use Rattle.std.proofs.Common.{arith}
use Rattle.progression.specs.Street.{link_of}
use Rattle.street_changes.specs.Changes.{pace_changes}
use Rattle.timing_measures.proofs.Pieces.{piece_next}
use Rattle.quantity_text.proofs.Pushed.{one_more}
use Rattle.std.proofs.lemmas.Grind.{common_steps}
use Rattle.street_changes.proofs.listing.push_link_paces.Goals as goal

pub loop-link-preserved : goal.loop-link-preserved
loop-link-preserved c =
    one_more c.args.changes.now.items _ _ _ _ _ c.loop-link.invariant c.in_ok-push_paces_at.ensures (piece_next (λ i. pace_changes i (link_of c.args.artery.now i)) c.loop-link.link (omega arith))

pub returns-in_err-push_paces_at : goal.returns-in_err-push_paces_at
returns-in_err-push_paces_at c = grind (arith, common_steps)
