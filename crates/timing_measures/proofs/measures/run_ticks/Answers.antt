use Rattle.std.proofs.Common.{◌≤◌, sym, subst, pos, ◌≤ℤ◌}
use Rattle.rational_theory.specs.Rational.{ℚ}
use Rattle.timing_measures.proofs.SomeTicks.{some_ticks}
use Rattle.timing_measures.proofs.measures.run_ticks.Goals as goal

pub returns-clause-least : goal.returns-clause-least
returns-clause-least c =
    let p = subst (λ (x : ℚ). pos 1 ≤ℤ x.num) c.run_low.ensures.value c.run_low.ensures.positive in
    let e = some_ticks c.args.artery.now c.args.base.now c.args.dir c.args.link c.requires.base (c.requires.link.0, c.requires.link.1) p in
    subst (λ n. 1 ≤ n) (sym c.run.ensures.value) e
