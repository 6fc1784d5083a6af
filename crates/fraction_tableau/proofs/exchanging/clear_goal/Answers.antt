use Rattle.std.proofs.Common.{length, sym, ◌∙◌, ap, subst, arith}
use Rattle.narrow_fraction.specs.Attempt.{attempt}
use Rattle.fraction_tableau.specs.Narrow.{IsNarrow}
use Rattle.fraction_tableau.proofs.Zeros.{zero_row, zero_row_kept}
use Rattle.fraction_tableau.proofs.exchanging.clear_goal.Goals as goal

pub returns-then-is_zero-clause-cleared : goal.returns-then-is_zero-clause-cleared
returns-then-is_zero-clause-cleared c =
    let z = sym c.held-factor.ensures ∙ c.is_zero.ensures.0 c.if-is_zero.true in
    let same = c.copy_from.ensures ∙ zero_row_kept _ _ _ c.requires.width (omega (arith, c.requires.width, c.requires.pivot.place)) z in
    record {
      outcome = sym (ap (λ o. attempt o tt) (zero_row _ _ _ _ _ c.requires.narrow z));
      cleared = same;
      width = ap length c.copy_from.ensures ∙ c.requires.width ∙ sym c.requires.spare;
      narrow = subst IsNarrow (sym c.copy_from.ensures) c.requires.narrow;
    }
