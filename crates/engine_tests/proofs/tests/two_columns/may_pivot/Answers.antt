use Rattle.std.proofs.Common.{eqb, sym, ◌∙◌, arith}
use Rattle.std.proofs.lemmas.Bool.{cond-false, ne_eqb}
use Rattle.rational_theory.proofs.Compare.{eq_false}
use Rattle.simplex_theory.specs.Tableau.{height}
use Rattle.engine_tests.proofs.tests.two_columns.may_pivot.Goals as goal

pub returns-clause-pivot : goal.returns-clause-pivot
returns-clause-pivot c = λ _ e.
    let t = c.args.tableau.now.table in
    let read = c.cell.ensures ∙ cond-false (eqb c.args.row (height t)) _ _ (ne_eqb c.args.row (height t) (λ q. absurd (omega (arith, q, c.rows.ensures.count, c.if-row-rows.false)))) in
    eq_false c.cell.result c.whole.result c.if-eq.ensures (read ∙ e ∙ sym c.whole.ensures)
