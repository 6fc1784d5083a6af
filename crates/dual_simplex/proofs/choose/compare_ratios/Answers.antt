use Rattle.std.proofs.Common.{Ok, sym, ◌∙◌, ap}
use Rattle.rational_theory.specs.Rational.{neg_ℚ, ◌/ℚ◌}
use Rattle.rational_theory.specs.Compare.{cmp_ℚ}
use Rattle.narrow_fraction.specs.Attempt.{attempt}
use Rattle.fraction_tableau.proofs.Refusals.{refused_none}
use Rattle.dual_simplex.proofs.choose.compare_ratios.Goals as goal

pub returns-in-Some : goal.returns-in-Some
returns-in-Some c =
    let n = c.args.next.now in
    let b = c.args.best.now in
    let f = refused_none _ _ _ c.args.row n.place c.in-Some.ensures.fits in
    ap Ok c.in-Some.ensures.order ∙ sym (ap (λ o. attempt o (cmp_ℚ (n.goal /ℚ neg_ℚ n.cell) (b.goal /ℚ neg_ℚ b.cell))) f)
