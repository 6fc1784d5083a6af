use Rattle.std.proofs.Common.{◌≡◌, ℕ, List, Result, ◌<◌, ◌≤◌, IfOk, sym, ◌∙◌, ap, subst, arith}
use Rattle.simplex_theory.specs.Tableau.{Tableau, width, exchange}
use Rattle.narrow_fraction.specs.Attempt.{attempt}
use Rattle.entry_theory.specs.Entry.{entry_row, entry_pivot}
use Rattle.entry_theory.proofs.Rows.{pivot_column, pivot_slack}
use Rattle.fraction_tableau.specs.NamedTableaus.{NamedTableau}
use Rattle.fraction_tableau.specs.Refusals.{pivot_refusal}
use Rattle.fraction_tableau.specs.declared.wide_cell.WideCell.{WideCell}
use Rattle.program_builder.specs.EntryRefusals.{variable_refusal}
use Rattle.program_builder.proofs.EntryRefusals.{refusal_column, refusal_slack}
use Rattle.program_builder.proofs.entry_pivots.enter_variable.Goals as goal

-- column v enters row r
column_outcome : (vs : List ℕ) (t : Tableau) (v r : ℕ) (o : Result Unit WideCell) → v < width t → r ≡ entry_row vs t v
    → o ≡ attempt (pivot_refusal r v t.rows t.goal) tt → o ≡ attempt (variable_refusal vs t v) tt
column_outcome vs t v r o l e p = p ∙ ap (λ k. attempt (pivot_refusal k v t.rows t.goal) tt) e ∙ ap (λ x. attempt x tt) (sym (refusal_column vs t v l))

column_pivoted : (vs : List ℕ) (s t : NamedTableau) (v r : ℕ) (o : Result Unit WideCell) → v < width s.table → r ≡ entry_row vs s.table v
    → IfOk o (λ _. t ≡ record s { table = exchange r v s.table }) → IfOk o (λ _. t ≡ record s { table = entry_pivot vs s.table v })
column_pivoted vs s t v r o l e p =
    subst (λ (u : Tableau). IfOk o (λ _. t ≡ record s { table = u })) (ap (λ k. exchange k v s.table) e ∙ sym (pivot_column vs s.table v l)) p

pub returns-then-pivots-notes-clause-outcome : goal.returns-then-pivots-notes-clause-outcome
returns-then-pivots-notes-clause-outcome c =
    let l : c.args.variable < width c.args.tableau.now.table = let e = c.width.ensures.count in omega arith in
    column_outcome c.args.basis.now c.args.tableau.now.table _ _ _ l c.entry_row-row.ensures c.pivot.ensures.pivots.outcome

pub returns-then-pivots-notes-clause-pivoted : goal.returns-then-pivots-notes-clause-pivoted
returns-then-pivots-notes-clause-pivoted c =
    let l : c.args.variable < width c.args.tableau.now.table = let e = c.width.ensures.count in omega arith in
    column_pivoted c.args.basis.now c.args.tableau.now c.pivot.new.tableau _ _ _ l c.entry_row-row.ensures c.pivot.ensures.pivots.exchanged

pub returns-else-pivots-notes-clause-outcome : goal.returns-else-pivots-notes-clause-outcome
returns-else-pivots-notes-clause-outcome c =
    let l : c.args.variable < width c.args.tableau.now.table = let e = c.width.ensures.count in omega arith in
    column_outcome c.args.basis.now c.args.tableau.now.table _ _ _ l c.entry_row-row.ensures c.pivot-else-pivots-notes.ensures.outcome

pub returns-else-pivots-notes-clause-pivoted : goal.returns-else-pivots-notes-clause-pivoted
returns-else-pivots-notes-clause-pivoted c =
    let l : c.args.variable < width c.args.tableau.now.table = let e = c.width.ensures.count in omega arith in
    column_pivoted c.args.basis.now c.args.tableau.now c.pivot-else-pivots-notes.new.self _ _ _ l c.entry_row-row.ensures c.pivot-else-pivots-notes.ensures.exchanged

pub returns-else-variable-width-clause-outcome : goal.returns-else-variable-width-clause-outcome
returns-else-variable-width-clause-outcome c =
    let l : width c.args.tableau.now.table ≤ c.args.variable = let e = c.width.ensures.count in omega arith in
    ap (λ o. attempt o tt) (sym (refusal_slack c.args.basis.now c.args.tableau.now.table c.args.variable l))

pub returns-else-variable-width-clause-pivoted : goal.returns-else-variable-width-clause-pivoted
returns-else-variable-width-clause-pivoted c =
    let l : width c.args.tableau.now.table ≤ c.args.variable = let e = c.width.ensures.count in omega arith in
    ap (λ (u : Tableau). record { table = u; names = c.args.tableau.now.names; spent = c.args.tableau.now.spent }) (sym (pivot_slack c.args.basis.now c.args.tableau.now.table c.args.variable l))
