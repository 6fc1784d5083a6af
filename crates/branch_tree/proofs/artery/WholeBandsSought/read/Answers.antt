use Rattle.std.proofs.Common.{subst, ap, Ok, Err}
use Rattle.offset_recovery.specs.Recovered.{recovered}
use Rattle.offset_recovery.specs.Answers.{IsOutcome}
use Rattle.box_search.specs.VertexOutcomes.{outcome_of}
use Rattle.branch_tree.proofs.ArteryEnds.{end_vertex}
use Rattle.branch_tree.proofs.artery.WholeBandsSought.read.Goals as goal

pub recover-requires-clause-vertex : goal.recover-requires-clause-vertex
recover-requires-clause-vertex c =
    let (line, e, o, x) = c.requires.vertex in
    end_vertex c.args.self.now.artery.now line c.known_valid.ensures c.args.area.now c.args.point.now.values.items e o x

pub returns-in-Ok-Timing : goal.returns-in-Ok-Timing
returns-in-Ok-Timing c =
    ap outcome_of (subst (λ r. IsOutcome (recovered c.args.self.now.artery.now c.args.area.now c.args.point.now.values.items) (Ok r)) c.in-Ok-Timing.field-0-is c.in-Ok-Timing.ensures.outcome)

pub returns-in-Ok-SplitAt : goal.returns-in-Ok-SplitAt
returns-in-Ok-SplitAt c =
    ap outcome_of (subst (λ r. IsOutcome (recovered c.args.self.now.artery.now c.args.area.now c.args.point.now.values.items) (Ok r)) c.in-Ok-SplitAt.field-0-is c.in-Ok-SplitAt.ensures.outcome)

pub returns-in-Err-Wide : goal.returns-in-Err-Wide
returns-in-Err-Wide c =
    ap outcome_of (subst (λ f. IsOutcome (recovered c.args.self.now.artery.now c.args.area.now c.args.point.now.values.items) (Err f)) c.in-Err-Wide.field-0-is c.in-Err-Wide.ensures.outcome)
