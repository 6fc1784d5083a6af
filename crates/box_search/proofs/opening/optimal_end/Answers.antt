use Rattle.std.proofs.Common.{◌≡◌, inr, refl, sym, ◌∙◌, ap, ap₂, subst}
use Rattle.simplex_theory.specs.Tableau.{goal_bound}
use Rattle.box_search.specs.Ends.{end_leaf, leaf_row}
use Rattle.box_search.specs.Sites.{IsWide}
use Rattle.box_search.specs.laws.RunLaws.{leaf_covers}
use Rattle.box_search.proofs.Runs.{wide_sum_optimal}
use Rattle.box_search.specs.BoxRuns.{IsSummed}
use Rattle.box_search.proofs.Leaving.{ends_unproved}
use Rattle.box_search.proofs.Reading.{leaf_read}
use Rattle.box_search.proofs.opening.optimal_end.Goals as goal

pub sum-requires-clause-leaf : goal.sum-requires-clause-leaf
sum-requires-clause-leaf g c =
    let line = c.requires.run.0 in
    (line, c.requires.run.1, leaf_read (g.P.Sought.program c.args.program.now) line c.args.tableau.now c.in_ok-leaf.leaf.multipliers.items c.requires.run.2 c.in_ok-leaf.ensures.list)

pub read_end-requires-clause-covering : goal.read_end-requires-clause-covering
read_end-requires-clause-covering g c =
    let p = g.P.Sought.program c.args.program.now in
    let line = c.requires.run.0 in
    let r = c.requires.run.2 in
    let ws = c.in_ok-leaf.leaf.multipliers.items in
    let read : ws ≡ end_leaf p line = leaf_read p line c.args.tableau.now ws r c.in_ok-leaf.ensures.list in
    let s = subst (IsSummed p c.args.area.now ws) c.in-Bound.is c.in_ok-bound.ensures in
    record {
      leaf_is = c.in_ok-leaf.ensures.list;
      fits = s.0;
      bound_is = s.1 ∙ ap₂ (λ b us. (leaf_row p b us).bound) (sym c.requires.run.1) read ∙ (leaf_covers p line c.known_program.ensures.sound r.move_is).bound
          ∙ ap (λ t. goal_bound t.table) (sym r.tableau_is);
    }

pub returns-in-Wide : goal.returns-in-Wide
returns-in-Wide g c = λ line e r q.
    let p = g.P.Sought.program c.args.program.now in
    let m = g.P.Sought.meaning c.args.program.now in
    let ws = c.in_ok-leaf.leaf.multipliers.items in
    let read : ws ≡ end_leaf p line = leaf_read p line c.args.tableau.now ws r c.in_ok-leaf.ensures.list in
    let s = subst (IsSummed p c.args.area.now ws) c.in-Wide.is c.in_ok-bound.ensures in
    let f = ap₂ p.leaf_fault e (sym read) ∙ s in (
      inr (refl, ends_unproved p m (g.P.Sought.IsFor c.args.program.now) c.known_program.ensures.ends line c.in_ok-leaf.leaf _ read f),
      subst (IsWide p line _) (c.known_program.ensures.ends.sums_named c.in-Wide.row c.in-Wide.at) (wide_sum_optimal p line _ c.in-Wide.row c.in-Wide.at r.reached r.step f),
      refl,
    )
