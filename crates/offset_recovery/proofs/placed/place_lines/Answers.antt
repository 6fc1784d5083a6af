use Rattle.std.proofs.Common.{◌≤◌, subst, arith}
use Rattle.std.proofs.lemmas.Grind.{common_steps}
use Rattle.artery_model.specs.Bounds.{most_signals}
use Rattle.offset_recovery.proofs.Making.{line_runs_fit, base_known}
use Rattle.offset_recovery.proofs.placed.place_lines.Goals as goal

pub reds-requires-clause-runs : goal.reds-requires-clause-runs
reds-requires-clause-runs c = line_runs_fit c.args.artery.now c.args.point.now.values.items c.requires.lines

pub unreachable-requires : goal.unreachable-requires
unreachable-requires c =
    let a = c.args.artery.now in let x = c.args.point.now.values.items in
    c.in-None.ensures.none
    (base_known a x c.grid-grid.result c.args.unit _ _ _ _
    (subst (λ n. 2 ≤ n) c.count-count.ensures.value c.count-count.ensures.few) (subst (λ n. n ≤ most_signals) c.count-count.ensures.value c.count-count.ensures.many)
    c.requires.ready c.requires.lines c.in-Ok.ensures.0
    c.grid-grid.ensures.value c.requires.unit c.in_ok-patterns.ensures c.in-Ok.ensures.1 c.in_ok-run_out.ensures c.in_ok-run_in.ensures)

pub returns-in_err-first_out : goal.returns-in_err-first_out
returns-in_err-first_out c = grind (arith, common_steps)
