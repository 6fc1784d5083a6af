use Rattle.std.proofs.Common.{subst, ap, Ok, Err}
use Rattle.offset_recovery.specs.Answers.{IsOutcome}
use Rattle.box_search.specs.VertexOutcomes.{outcome_of}
use Rattle.multi_band.specs.LinkRecovered.{link_recovered}
use Rattle.multi_band.proofs.LinkLeafProofs.{link_vertex_there}
use Rattle.multi_band.proofs.program.ArteryLinksSought.read.Goals as goal

pub recover_links-requires-clause-vertex : goal.recover_links-requires-clause-vertex
recover_links-requires-clause-vertex c =
    let (line, e, o, x) = c.requires.vertex in
    link_vertex_there c.args.self.now.artery.now line c.known_valid.ensures c.args.area.now c.args.point.now.values.items e o x

pub returns-in-Ok-Timing : goal.returns-in-Ok-Timing
returns-in-Ok-Timing c =
    ap outcome_of (subst (λ r. IsOutcome (link_recovered c.args.self.now.artery.now c.args.area.now c.args.point.now.values.items) (Ok r)) c.in-Ok-Timing.field-0-is c.in-Ok-Timing.ensures.outcome)

pub returns-in-Ok-SplitAt : goal.returns-in-Ok-SplitAt
returns-in-Ok-SplitAt c =
    ap outcome_of (subst (λ r. IsOutcome (link_recovered c.args.self.now.artery.now c.args.area.now c.args.point.now.values.items) (Ok r)) c.in-Ok-SplitAt.field-0-is c.in-Ok-SplitAt.ensures.outcome)

pub returns-in-Err-Wide : goal.returns-in-Err-Wide
returns-in-Err-Wide c =
    ap outcome_of (subst (λ f. IsOutcome (link_recovered c.args.self.now.artery.now c.args.area.now c.args.point.now.values.items) (Err f)) c.in-Err-Wide.field-0-is c.in-Err-Wide.ensures.outcome)
