use Rattle.std.proofs.Common.{refl, sym, ◌∙◌, ap, arith}
use Rattle.fraction_tableau.specs.NamedTableaus.{NamedTableau}
use Rattle.dual_simplex.proofs.Running.{running_none, running_next, running_falls, stopped, ended, wide_after}
use Rattle.dual_simplex.proofs.solve.solve_node.Goals as goal

pub loop-pivots-init : goal.loop-pivots-init
loop-pivots-init c = record {
  unspent = c.requires.unspent;
  running = running_none c.args.tableau.now c.args.pivots.now c.args.meter.now c.requires.dual (omega arith) (omega arith) c.requires.within;
}

pub returns-then-is_stopped-clause-solved : goal.returns-then-is_stopped-clause-solved
returns-then-is_stopped-clause-solved c =
    let i = c.loop-pivots.invariant.running in
    (i.made, stopped _ _ _ _ _ _ i (sym c.is_stopped.ensures ∙ c.if-is_stopped.true))

pub returns-in-Optimal-clause-solved : goal.returns-in-Optimal-clause-solved
returns-in-Optimal-clause-solved c =
    let i = c.loop-pivots.invariant.running in
    (i.made, ended _ _ _ _ _ _ _ _ _ i (sym c.is_stopped.ensures ∙ c.if-is_stopped.false) (sym c.in-Optimal.ensures.outcome) refl c.in-Optimal.ensures.after)

pub returns-in-Infeasible-clause-solved : goal.returns-in-Infeasible-clause-solved
returns-in-Infeasible-clause-solved c =
    let i = c.loop-pivots.invariant.running in
    (i.made, ended _ _ _ _ _ _ _ _ _ i (sym c.is_stopped.ensures ∙ c.if-is_stopped.false) (sym c.in-Infeasible.ensures.outcome) refl c.in-Infeasible.ensures.after)

pub returns-in-Wide-clause-solved : goal.returns-in-Wide-clause-solved
returns-in-Wide-clause-solved c =
    let i = c.loop-pivots.invariant.running in
    (i.made, ended _ _ _ _ _ _ _ _ _ i (sym c.is_stopped.ensures ∙ c.if-is_stopped.false) (sym c.in-Wide.ensures.outcome) refl (wide_after _ _ _ _ c.in-Wide.ensures.after))

pub loop-pivots-smaller : goal.loop-pivots-smaller
loop-pivots-smaller c =
    running_falls c.loop-pivots.tableau c.step.new.tableau c.in-Pivoted.row c.in-Pivoted.col c.loop-pivots.invariant.running.dual (sym c.in-Pivoted.ensures.outcome) c.in-Pivoted.ensures.after

pub loop-pivots-preserved : goal.loop-pivots-preserved
loop-pivots-preserved c = record {
  unspent = ap (λ (t : NamedTableau). t.spent) c.in-Pivoted.ensures.after ∙ c.loop-pivots.invariant.unspent;
  running = running_next c.args.tableau.now c.args.pivots.now c.args.meter.now c.loop-pivots.tableau c.step.new.tableau c.loop-pivots.pivots
      c.saturating_add.result c.loop-pivots.meter _ c.in-Pivoted.row c.in-Pivoted.col
      c.loop-pivots.invariant.running (sym c.is_stopped.ensures ∙ c.if-is_stopped.false) (sym c.in-Pivoted.ensures.outcome) c.in-Pivoted.ensures.after
      c.saturating_add.ensures c.spend.ensures.spent c.spend.ensures.limit;
}
