use Rattle.std.proofs.Common.{refl, sym, ◌∙◌, subst, arith}
use Rattle.narrow_fraction.specs.Fraction.{FitsFrac}
use Rattle.fraction_tableau.specs.Narrow.{IsNarrow}
use Rattle.fraction_tableau.specs.Scales.{IsScaled}
use Rattle.fraction_tableau.proofs.KeptCells.{open_row}
use Rattle.fraction_tableau.proofs.Rebound.{bound_taken, narrow_rebound}
use Rattle.fraction_tableau.proofs.sparse_row.SparseRow.take_bound.Goals as goal

pub invariant_of-self : goal.invariant_of-self
invariant_of-self c =
    let v = bound_taken _ _ _ c.self.inside.bound _ _ c.self.view_is refl in
    (c.self.invariant.0, (subst (IsScaled c.in-Some.scale) (sym v) c.in-Some.ensures.row, c.self.invariant.1.1))

pub returns-in-Some-clause-bound : goal.returns-in-Some-clause-bound
returns-in-Some-clause-bound c =
    bound_taken _ _ _ c.self.inside.bound _ _ c.self.view_is (c.bound_over-bound.ensures ∙ c.fitting.ensures.same)

pub returns-in-Some-clause-narrow : goal.returns-in-Some-clause-narrow
returns-in-Some-clause-narrow c =
    let w = (open_row _ _ _ _ _ c.self.invariant.0 c.self.view_is).wide in
    subst IsNarrow (sym (returns-in-Some-clause-bound c)) (narrow_rebound c.args.self.now c.args.bound (omega arith) c.requires.narrow (subst FitsFrac c.fitting.ensures.same c.fitting.ensures.fits))

pub returns-in-None-clause-bound : goal.returns-in-None-clause-bound
returns-in-None-clause-bound c =
    bound_taken _ _ _ c.self.inside.bound _ _ c.self.view_is (c.bound_over-bound.ensures ∙ c.fitting.ensures.same)

pub returns-in-None-clause-narrow : goal.returns-in-None-clause-narrow
returns-in-None-clause-narrow c =
    let w = (open_row _ _ _ _ _ c.self.invariant.0 c.self.view_is).wide in
    subst IsNarrow (sym (returns-in-None-clause-bound c)) (narrow_rebound c.args.self.now c.args.bound (omega arith) c.requires.narrow (subst FitsFrac c.fitting.ensures.same c.fitting.ensures.fits))
