use Rattle.std.proofs.Common.{◌≡◌, inr, refl, sym, ◌∙◌, ap₂, subst}
use Rattle.box_search.specs.Ends.{end_leaf}
use Rattle.box_search.specs.Sites.{IsWide}
use Rattle.box_search.proofs.Runs.{wide_sum_infeasible}
use Rattle.box_search.specs.BoxRuns.{IsSummed}
use Rattle.box_search.proofs.Openings.{opens_empty}
use Rattle.box_search.proofs.Leaving.{ends_unproved}
use Rattle.box_search.proofs.Reading.{row_said, refuter_read}
use Rattle.box_search.proofs.opening.infeasible_end.Goals as goal

pub refuter_of-requires-clause-row : goal.refuter_of-requires-clause-row
refuter_of-requires-clause-row g c = (row_said (g.P.Sought.program c.args.program.now) c.requires.run.0 c.args.tableau.now c.args.row c.requires.run.2).0

pub refuter_of-requires-clause-bound : goal.refuter_of-requires-clause-bound
refuter_of-requires-clause-bound g c = (row_said (g.P.Sought.program c.args.program.now) c.requires.run.0 c.args.tableau.now c.args.row c.requires.run.2).1

pub refuter_of-requires-clause-cells : goal.refuter_of-requires-clause-cells
refuter_of-requires-clause-cells g c = (row_said (g.P.Sought.program c.args.program.now) c.requires.run.0 c.args.tableau.now c.args.row c.requires.run.2).2

pub sum-requires-clause-leaf : goal.sum-requires-clause-leaf
sum-requires-clause-leaf g c =
    let line = c.requires.run.0 in
    (line, c.requires.run.1, refuter_read (g.P.Sought.program c.args.program.now) line c.args.tableau.now c.args.row c.in_ok-leaf.leaf.multipliers.items c.requires.run.2 c.in_ok-leaf.ensures.list)

pub returns-in-Bound : goal.returns-in-Bound
returns-in-Bound g c = λ line e r.
    let p = g.P.Sought.program c.args.program.now in
    let ws = c.in_ok-leaf.leaf.multipliers.items in
    let read : ws ≡ end_leaf p line = refuter_read p line c.args.tableau.now c.args.row ws r c.in_ok-leaf.ensures.list in
    let s = subst (IsSummed p c.args.area.now ws) c.in-Bound.is c.in_ok-sum.ensures in
    opens_empty p (g.P.Sought.meaning c.args.program.now) (g.P.Sought.IsFor c.args.program.now) c.known_program.ensures.ends line c.in_ok-leaf.leaf read
    (ap₂ p.leaf_fault e (sym read) ∙ s.0) c.args.row r.move_is

pub returns-in-Wide : goal.returns-in-Wide
returns-in-Wide g c = λ line e r.
    let p = g.P.Sought.program c.args.program.now in
    let m = g.P.Sought.meaning c.args.program.now in
    let ws = c.in_ok-leaf.leaf.multipliers.items in
    let read : ws ≡ end_leaf p line = refuter_read p line c.args.tableau.now c.args.row ws r c.in_ok-leaf.ensures.list in
    let s = subst (IsSummed p c.args.area.now ws) c.in-Wide.is c.in_ok-sum.ensures in
    let f = ap₂ p.leaf_fault e (sym read) ∙ s in (
      inr (refl, ends_unproved p m (g.P.Sought.IsFor c.args.program.now) c.known_program.ensures.ends line c.in_ok-leaf.leaf _ read f),
      subst (IsWide p line _) (c.known_program.ensures.ends.sums_named c.in-Wide.row c.in-Wide.at) (wide_sum_infeasible p line _ c.args.row c.in-Wide.row c.in-Wide.at r.reached r.step f),
      refl,
    )
