use Rattle.std.proofs.Common.{sym, subst, ◌∙◌}
use Rattle.narrow_fraction.specs.Fraction.{FitsFrac}
use Rattle.named_row.specs.Sheets.{at_place}
use Rattle.fraction_tableau.specs.KeptCells.{number_in}
use Rattle.fraction_tableau.proofs.Filling.{filled_next}
use Rattle.fraction_tableau.proofs.loading.fill_row.Goals as goal

pub loop-place-preserved : goal.loop-place-preserved
unfolding at_place
loop-place-preserved c =
    filled_next (number_in c.args.from.now.coefs) _ _ _ _ _ _ _ c.loop-place.invariant c.put-made.auto.cells (c.of_fraction-cell.ensures
    ∙ c.fitting-cell.ensures.same ∙ c.get.ensures) (subst FitsFrac (sym c.of_fraction-cell.ensures) c.fitting-cell.ensures.fits) c.put-made.ensures.count c.put-made.ensures.cells
