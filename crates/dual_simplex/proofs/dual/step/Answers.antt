use Rattle.std.proofs.Common.{sym, ◌∙◌, ap, subst}
use Rattle.simplex_theory.specs.DualSteps.{IsDual}
use Rattle.simplex_theory.proofs.DualSteps.{dual-exchange}
use Rattle.fraction_tableau.specs.NamedTableaus.{NamedTableau}
use Rattle.simplex_theory.proofs.Signs.{negative_nonzero}
use Rattle.simplex_theory.specs.BlandRule.{chosen_place}
use Rattle.simplex_theory.proofs.BlandRule.{chosen_choice, chosen_row_in}
use Rattle.narrow_fraction.proofs.Attempt.{attempt_ok, attempt_err}
use Rattle.dual_simplex.specs.Ratios.{place_of}
use Rattle.dual_simplex.proofs.Steps.{step_optimal, step_wide_ratio, step_infeasible, step_pivoted, step_wide}
use Rattle.dual_simplex.proofs.Choices.{place_with, chosen_at}
use Rattle.dual_simplex.proofs.dual.step.Goals as goal

pub returns-in_default-clause-outcome : goal.returns-in_default-clause-outcome
returns-in_default-clause-outcome c = sym (step_optimal c.args.tableau.now.table c.in_default.ensures)

pub chosen_place-requires : goal.chosen_place-requires
chosen_place-requires c = (chosen_row_in c.args.tableau.now.table c.in-Some.row (sym c.in-Some.ensures)).0

pub returns-in-Err-clause-outcome : goal.returns-in-Err-clause-outcome
returns-in-Err-clause-outcome c = sym (step_wide_ratio c.args.tableau.now.table c.in-Some.row c.in-Err.cell c.in-Some.ensures (attempt_err _ _ _ c.in-Err.ensures))

pub returns-in_default-chosen-clause-outcome : goal.returns-in_default-chosen-clause-outcome
returns-in_default-chosen-clause-outcome c =
    let t = c.args.tableau.now.table in
    let q = attempt_ok _ _ _ c.in-Ok.ensures in
    let p = ap place_of (sym c.in_default-chosen.is ∙ q.1) ∙ place_with t c.in-Some.row (chosen_place t c.in-Some.row) in
    sym (step_infeasible t c.in-Some.row c.in-Some.ensures q.0 p)

pub pivot-requires-clause-row : goal.pivot-requires-clause-row
pivot-requires-clause-row c = (chosen_row_in c.args.tableau.now.table c.in-Some.row (sym c.in-Some.ensures)).0

pub pivot-requires-clause-col : goal.pivot-requires-clause-col
pivot-requires-clause-col c =
    let t = c.args.tableau.now.table in
    let q = attempt_ok _ _ _ c.in-Ok.ensures in
    (chosen_choice t c.in-Some.row c.in-Some-chosen.best.place (sym c.in-Some.ensures) (sym (chosen_at t c.in-Some.row _ c.in-Some-chosen.best c.in-Some-chosen.is q.1))).place

pub pivot-requires-clause-pivot : goal.pivot-requires-clause-pivot
pivot-requires-clause-pivot c =
    let t = c.args.tableau.now.table in
    let q = attempt_ok _ _ _ c.in-Ok.ensures in
    negative_nonzero _ (chosen_choice t c.in-Some.row c.in-Some-chosen.best.place (sym c.in-Some.ensures) (sym (chosen_at t c.in-Some.row _ c.in-Some-chosen.best c.in-Some-chosen.is q.1))).entering

pub returns-in-Ok-pivot-clause-outcome : goal.returns-in-Ok-pivot-clause-outcome
returns-in-Ok-pivot-clause-outcome c =
    let t = c.args.tableau.now.table in
    let q = attempt_ok _ _ _ c.in-Ok.ensures in
    sym (step_pivoted t c.in-Some.row c.in-Some-chosen.best.place c.in-Some.ensures q.0 (chosen_at t c.in-Some.row _ c.in-Some-chosen.best c.in-Some-chosen.is q.1)
    (attempt_ok _ _ _ c.in-Ok-pivot.ensures.outcome).0)

pub returns-in-Err-pivot-clause-outcome : goal.returns-in-Err-pivot-clause-outcome
returns-in-Err-pivot-clause-outcome c =
    let t = c.args.tableau.now.table in
    let q = attempt_ok _ _ _ c.in-Ok.ensures in
    sym (step_wide t c.in-Some.row c.in-Some-chosen.best.place c.in-Err-pivot.cell c.in-Some.ensures q.0 (chosen_at t c.in-Some.row _ c.in-Some-chosen.best c.in-Some-chosen.is q.1)
    (attempt_err _ _ _ c.in-Err-pivot.ensures.outcome))

pub returns-in-Ok-pivot-clause-dual : goal.returns-in-Ok-pivot-clause-dual
returns-in-Ok-pivot-clause-dual c =
    let t = c.args.tableau.now.table in
    let q = attempt_ok _ _ _ c.in-Ok.ensures in
    let choice = chosen_choice t c.in-Some.row c.in-Some-chosen.best.place (sym c.in-Some.ensures) (sym (chosen_at t c.in-Some.row _ c.in-Some-chosen.best c.in-Some-chosen.is q.1)) in
    λ _. subst IsDual (sym (ap (λ (s : NamedTableau). s.table) c.in-Ok-pivot.ensures.exchanged)) (dual-exchange _ _ t c.requires.dual choice)
