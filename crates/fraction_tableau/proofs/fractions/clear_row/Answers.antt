use Rattle.std.proofs.Common.{◌≡◌, ℕ, None, Some, Result, IfOk, length, take, ◌<◌, refl, sym, ◌∙◌, ap, subst, arith}
use Rattle.rational_theory.specs.Rational.{ℚ, neg_ℚ, inverse_ℚ, ◌*ℚ◌}
use Rattle.simplex_theory.specs.Lines.{cleared}
use Rattle.simplex_theory.proofs.Lines.{length-cleared}
use Rattle.narrow_fraction.specs.Attempt.{attempt, earlier}
use Rattle.narrow_fraction.proofs.Attempt.{attempt_ok, attempt_err}
use Rattle.narrow_fraction.specs.declared.wide.Op.TheVariants.{Mul, Sub, Div}
use Rattle.fraction_tableau.specs.Narrow.{IsNarrow}
use Rattle.fraction_tableau.specs.Refusals.{refused, clear_refusal}
use Rattle.fraction_tableau.specs.declared.wide_cell.WideCell.{WideCell}
use Rattle.fraction_tableau.specs.KeptCells.{number_in, merged_at, dense_row, IsSparse}
use Rattle.fraction_tableau.proofs.KeptCells.{same_width, empty_row, sparse_narrow}
use Rattle.fraction_tableau.proofs.Making.{row_made}
use Rattle.fraction_tableau.proofs.Merges.{inverse_some, clear_stopped, clear_bound, clear_ended, cleared_is, cleared_last}
use Rattle.fraction_tableau.proofs.fractions.clear_row.Goals as goal
use Rattle.fraction_tableau.proofs.fractions.clear_row.Goals.{In-Ok-cleared_number, In-Ok-quotient}

pub merge-requires-clause-own : goal.merge-requires-clause-own
merge-requires-clause-own c =
    λ z. inverse_some c.args.elimination.now.pivot c.requires.pivot (sym c.requires.own ∙ z)

pub returns-in-Err-clause-outcome : goal.returns-in-Err-clause-outcome
returns-in-Err-clause-outcome c =
    let e = c.args.elimination.now in
    c.refused.ensures.outcome ∙ sym (ap (λ o. attempt o tt) (clear_stopped e.number e.place c.args.divided.now c.args.row.now e.pivot (length c.args.cells.now)
    c.in-Err.wide c.requires.width c.in-Err.ensures.refused))

pub returns-in-Err-clause-line : goal.returns-in-Err-clause-line
returns-in-Err-clause-line c =
    rw c.refused.ensures.count (empty_row _)

pub returns-in-Err-cleared_number-clause-outcome : goal.returns-in-Err-cleared_number-clause-outcome
returns-in-Err-cleared_number-clause-outcome c =
    let w = length c.args.cells.now in
    let d = c.args.row.now in
    let e = c.args.divided.now in
    let i = c.args.elimination.now.number in
    let factor = c.fraction-factor.result in
    let bx = c.bound.ensures ∙ ap (number_in d) (same_width _ _ _ c.requires.width refl) in
    let by = c.bound-2.ensures ∙ ap (number_in e) (same_width _ _ _ c.requires.width c.requires.widths) in
    let some = subst (λ n. earlier (refused Mul factor c.bound-2.result i n) (refused Sub c.bound.result (factor *ℚ c.bound-2.result) i n) ≡ Some c.in-Err-cleared_number.wide)
    c.merge.auto.cells (attempt_err _ _ _ c.in-Err-cleared_number.ensures.outcome) in
    c.refused-in-Err-cleared_number.ensures.outcome
    ∙ sym (ap (λ o. attempt o tt) (clear_bound i c.args.elimination.now.place e d c.args.elimination.now.pivot w factor c.bound.result c.bound-2.result
    c.in-Err-cleared_number.wide c.requires.width (omega (arith, c.requires.width, c.requires.place)) (c.fraction-factor.ensures.value ∙ c.requires.factor) bx by c.in-Ok.ensures.passed some))

-- where the cells and the bound are made, the quotient's operation is the only one that may be refused
ended : (c : In-Ok-cleared_number) → clear_refusal c.args.elimination.now.number c.args.elimination.now.place c.args.divided.now c.args.row.now
    c.args.elimination.now.pivot ≡ refused Div c.fraction-factor.result c.args.elimination.now.pivot c.args.elimination.now.number c.args.elimination.now.place
ended c =
    let d = c.args.row.now in
    let e = c.args.divided.now in
    let i = c.args.elimination.now.number in
    let factor = c.fraction-factor.result in
    let o = attempt_ok _ _ _ c.in-Ok-cleared_number.ensures.outcome in
    let none = subst (λ n. earlier (refused Mul factor c.bound-2.result i n) (refused Sub c.bound.result (factor *ℚ c.bound-2.result) i n) ≡ None) c.merge.auto.cells o.0 in
    clear_ended i c.args.elimination.now.place e d c.args.elimination.now.pivot (length c.args.cells.now) factor c.bound.result c.bound-2.result
    c.requires.width (omega (arith, c.requires.width, c.requires.place)) (c.fraction-factor.ensures.value ∙ c.requires.factor) (c.bound.ensures
    ∙ ap (number_in d) (same_width _ _ _ c.requires.width refl)) (c.bound-2.ensures ∙ ap (number_in e) (same_width _ _ _ c.requires.width c.requires.widths)) c.in-Ok.ensures.passed none

-- the row that is made
made : (c : In-Ok-quotient) → (IsSparse (length c.args.cells.now) c.in-Ok.count (take c.in-Ok.count c.merge.new.cells)
    × (dense_row (length c.args.cells.now) (take c.in-Ok.count c.merge.new.cells) c.in-Ok-cleared_number.bound ≡ cleared c.args.elimination.now.place c.args.divided.now c.args.row.now))
    × IsNarrow (cleared c.args.elimination.now.place c.args.divided.now c.args.row.now)
made c =
    let w = length c.args.cells.now in
    let d = c.args.row.now in
    let e = c.args.divided.now in
    let place = c.args.elimination.now.place in
    let pivot = c.args.elimination.now.pivot in
    let is : c.fraction-factor.result ≡ number_in d place = c.fraction-factor.ensures.value ∙ c.requires.factor in
    let j : place < w = omega (arith, c.requires.width, c.requires.place) in
    let q = attempt_ok _ _ _ (sym c.in-Ok-quotient.is ∙ c.over-quotient.ensures.outcome) in
    let v : c.of_fraction.result ≡ neg_ℚ (number_in d place *ℚ inverse_ℚ pivot) =
    c.of_fraction.ensures ∙ subst (λ (t : Result ℚ WideCell). IfOk t (λ value. c.negated_or.result ≡ neg_ℚ value)) c.in-Ok-quotient.is c.negated_or.ensures.ok
    ∙ ap neg_ℚ (q.1 ∙ ap (λ t. t *ℚ inverse_ℚ pivot) is) in
    let l = length-cleared place e d (sym c.requires.widths) ∙ c.requires.width in
    let f : ℕ → ℚ = merged_at place c.of_fraction.result e d in
    let at : (m : ℕ) → m < w → f m ≡ number_in (cleared place e d) m = λ m h. cleared_is place c.of_fraction.result pivot e d m (omega (arith, j, c.requires.width)) c.requires.own v in
    let bx = c.bound.ensures ∙ ap (number_in d) (same_width _ _ _ c.requires.width refl) in
    let by = c.bound-2.ensures ∙ ap (number_in e) (same_width _ _ _ c.requires.width c.requires.widths) in
    let b = cleared_last place w e d c.in-Ok-cleared_number.bound c.fraction-factor.result c.bound.result c.bound-2.result j is bx by (attempt_ok _ _ _ c.in-Ok-cleared_number.ensures.outcome).1 in (
      row_made (cleared place e d) w c.in-Ok.count f _ c.in-Ok-cleared_number.bound l c.in-Ok.ensures.count c.in-Ok.ensures.cells at b,
      sparse_narrow (cleared place e d) w f c.in-Ok-cleared_number.bound l at b c.in-Ok.ensures.fits c.in-Ok-cleared_number.ensures.fits,
    )

pub returns-in-Err-cleared_number-clause-line : goal.returns-in-Err-cleared_number-clause-line
returns-in-Err-cleared_number-clause-line c =
    rw c.refused-in-Err-cleared_number.ensures.count (empty_row _)

pub returns-in-Ok-quotient-clause-outcome : goal.returns-in-Ok-quotient-clause-outcome
returns-in-Ok-quotient-clause-outcome c =
    let q = attempt_ok _ _ _ (sym c.in-Ok-quotient.is ∙ c.over-quotient.ensures.outcome) in
    sym (ap (λ o. attempt o tt) (ended (goal.at.returns-in-Ok-quotient-clause-outcome c).In-Ok-cleared_number ∙ q.0))

pub returns-in-Ok-quotient-clause-line : goal.returns-in-Ok-quotient-clause-line
returns-in-Ok-quotient-clause-line c =
    (made (goal.at.returns-in-Ok-quotient-clause-line c).In-Ok-quotient).0.0

pub returns-in-Ok-quotient-clause-cleared : goal.returns-in-Ok-quotient-clause-cleared
returns-in-Ok-quotient-clause-cleared c =
    (made (goal.at.returns-in-Ok-quotient-clause-cleared c).In-Ok-quotient).0.1

pub returns-in-Ok-quotient-clause-narrow : goal.returns-in-Ok-quotient-clause-narrow
returns-in-Ok-quotient-clause-narrow c =
    (made (goal.at.returns-in-Ok-quotient-clause-narrow c).In-Ok-quotient).1

pub returns-in-Err-quotient-clause-outcome : goal.returns-in-Err-quotient-clause-outcome
returns-in-Err-quotient-clause-outcome c =
    let some = attempt_err _ _ _ (sym c.in-Err-quotient.is ∙ c.over-quotient.ensures.outcome) in
    c.refused-in-Err-quotient.ensures.outcome ∙ sym (ap (λ o. attempt o tt) (ended (goal.at.returns-in-Err-quotient-clause-outcome c).In-Ok-cleared_number ∙ some))

pub returns-in-Err-quotient-clause-line : goal.returns-in-Err-quotient-clause-line
returns-in-Err-quotient-clause-line c =
    rw c.refused-in-Err-quotient.ensures.count (empty_row _)
