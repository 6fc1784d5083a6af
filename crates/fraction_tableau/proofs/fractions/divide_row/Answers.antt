use Rattle.std.proofs.Common.{◌≡◌, ℕ, None, Some, length, take, ◌<◌, refl, sym, ◌∙◌, ap, subst, arith}
use Rattle.rational_theory.specs.Rational.{ℚ, inverse_ℚ, ◌*ℚ◌}
use Rattle.rational_theory.proofs.Ring.{one-*ℚ}
use Rattle.simplex_theory.specs.Lines.{divided}
use Rattle.simplex_theory.proofs.Lines.{length-divided}
use Rattle.narrow_fraction.specs.Attempt.{attempt}
use Rattle.narrow_fraction.proofs.Attempt.{attempt_ok, attempt_err}
use Rattle.narrow_fraction.specs.declared.wide.Op.TheVariants.{Div}
use Rattle.fraction_tableau.specs.Narrow.{IsNarrow}
use Rattle.fraction_tableau.specs.Refusals.{refused, divide_refusal}
use Rattle.fraction_tableau.specs.KeptCells.{number_in, divided_cell, dense_row, IsSparse}
use Rattle.fraction_tableau.proofs.KeptCells.{same_width, empty_row, sparse_narrow}
use Rattle.fraction_tableau.proofs.Making.{row_made}
use Rattle.fraction_tableau.proofs.Refusals.{divides_first}
use Rattle.fraction_tableau.proofs.Merges.{divide_stopped, divide_ended, divided_number, divided_last}
use Rattle.fraction_tableau.proofs.fractions.divide_row.Goals as goal
use Rattle.fraction_tableau.proofs.fractions.divide_row.Goals.{After-bound, In-Ok-over}

pub returns-in-Err-clause-outcome : goal.returns-in-Err-clause-outcome
returns-in-Err-clause-outcome c =
    c.refused.ensures.outcome ∙ sym (ap (λ o. attempt o tt) (divides_first _ _ _ _ _ _ c.whole.ensures c.cell-pivot.ensures (attempt_err _ _ _ c.in-Err.ensures.outcome)))

pub returns-in-Err-clause-line : goal.returns-in-Err-clause-line
returns-in-Err-clause-line c =
    rw c.refused.ensures.count (empty_row _)

pub returns-in-Err-divide_cells-clause-outcome : goal.returns-in-Err-divide_cells-clause-outcome
returns-in-Err-divide_cells-clause-outcome c =
    let w = length c.args.cells.now in
    let d = c.args.row.now in
    let place = c.args.place in
    let pivot = c.cell-pivot.result in
    let first = (attempt_ok _ _ _ c.in-Ok.ensures.outcome).0 in
    c.refused-in-Err-divide_cells.ensures.outcome
    ∙ sym (ap (λ o. attempt o tt) (divide_stopped c.args.number place d w c.whole.result pivot c.in-Err-divide_cells.wide c.requires.width c.whole.ensures
    c.cell-pivot.ensures first c.in-Err-divide_cells.ensures.refused))

pub returns-in-Err-divide_cells-clause-line : goal.returns-in-Err-divide_cells-clause-line
returns-in-Err-divide_cells-clause-line c =
    rw c.refused-in-Err-divide_cells.ensures.count (empty_row _)

-- where the cells are made, the bound's quotient is the only operation that may be refused
ended : (c : After-bound) → divide_refusal c.args.number c.args.place c.args.row.now ≡ refused Div c.bound.result c.cell-pivot.result c.args.number (length c.args.cells.now)
ended c =
    let first = (attempt_ok _ _ _ c.in-Ok.ensures.outcome).0 in
    let bx = c.bound.ensures ∙ ap (number_in c.args.row.now) (same_width _ _ _ c.requires.width refl) in
    divide_ended c.args.number c.args.place c.args.row.now (length c.args.cells.now) c.whole.result c.cell-pivot.result c.bound.result c.requires.width
    (omega (arith, c.requires.width, c.requires.place)) c.whole.ensures c.cell-pivot.ensures bx first c.in-Ok-divide_cells.ensures.passed

-- the row that is made
made : (c : In-Ok-over) → (IsSparse (length c.args.cells.now) c.in-Ok-divide_cells.count (take c.in-Ok-divide_cells.count c.divide_cells.new.cells)
    × (dense_row (length c.args.cells.now) (take c.in-Ok-divide_cells.count c.divide_cells.new.cells) c.in-Ok-over.bound ≡ divided c.args.place c.args.row.now))
    × IsNarrow (divided c.args.place c.args.row.now)
made c =
    let w = length c.args.cells.now in
    let d = c.args.row.now in
    let place = c.args.place in
    let pivot = c.cell-pivot.result in
    let bx = c.bound.ensures ∙ ap (number_in d) (same_width _ _ _ c.requires.width refl) in
    let j : place < w = omega (arith, c.requires.width, c.requires.place) in
    let v : c.of_fraction.result ≡ inverse_ℚ (number_in d place) = c.of_fraction.ensures ∙ (attempt_ok _ _ _ c.in-Ok.ensures.outcome).1
    ∙ ap (λ t. t *ℚ inverse_ℚ pivot) c.whole.ensures ∙ one-*ℚ _ ∙ ap inverse_ℚ c.cell-pivot.ensures in
    let l = length-divided place d ∙ c.requires.width in
    let f : ℕ → ℚ = divided_cell place c.of_fraction.result d in
    let at : (m : ℕ) → m < w → f m ≡ number_in (divided place d) m = λ m h. divided_number place c.of_fraction.result d m (omega (arith, j, c.requires.width)) v in
    let b = divided_last place w d c.in-Ok-over.bound c.bound.result pivot j c.cell-pivot.ensures bx (attempt_ok _ _ _ c.in-Ok-over.ensures.outcome).1 in (
      row_made (divided place d) w c.in-Ok-divide_cells.count f _ c.in-Ok-over.bound l c.in-Ok-divide_cells.ensures.count c.in-Ok-divide_cells.ensures.cells at b,
      sparse_narrow (divided place d) w f c.in-Ok-over.bound l at b c.in-Ok-divide_cells.ensures.fits c.in-Ok-over.ensures.fits,
    )

pub returns-in-Ok-over-clause-outcome : goal.returns-in-Ok-over-clause-outcome
returns-in-Ok-over-clause-outcome c =
    let o = attempt_ok _ _ _ c.in-Ok-over.ensures.outcome in
    let none = subst (λ n. refused Div c.bound.result c.cell-pivot.result c.args.number n ≡ None) c.divide_cells.auto.cells o.0 in
    sym (ap (λ o. attempt o tt) (ended (goal.at.returns-in-Ok-over-clause-outcome c).After-bound ∙ none))

pub returns-in-Ok-over-clause-line : goal.returns-in-Ok-over-clause-line
returns-in-Ok-over-clause-line c =
    (made (goal.at.returns-in-Ok-over-clause-line c).In-Ok-over).0.0

pub returns-in-Ok-over-clause-divided : goal.returns-in-Ok-over-clause-divided
returns-in-Ok-over-clause-divided c =
    (made (goal.at.returns-in-Ok-over-clause-divided c).In-Ok-over).0.1

pub returns-in-Ok-over-clause-narrow : goal.returns-in-Ok-over-clause-narrow
returns-in-Ok-over-clause-narrow c =
    (made (goal.at.returns-in-Ok-over-clause-narrow c).In-Ok-over).1

pub returns-in-Err-over-clause-outcome : goal.returns-in-Err-over-clause-outcome
returns-in-Err-over-clause-outcome c =
    let some = subst (λ n. refused Div c.bound.result c.cell-pivot.result c.args.number n ≡ Some c.in-Err-over.wide) c.divide_cells.auto.cells (attempt_err _ _ _ c.in-Err-over.ensures.outcome) in
    c.refused-in-Err-over.ensures.outcome ∙ sym (ap (λ o. attempt o tt) (ended (goal.at.returns-in-Err-over-clause-outcome c).After-bound ∙ some))

pub returns-in-Err-over-clause-line : goal.returns-in-Err-over-clause-line
returns-in-Err-over-clause-line c =
    rw c.refused-in-Err-over.ensures.count (empty_row _)
