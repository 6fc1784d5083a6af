use Rattle.std.proofs.Common.{◌≡◌, ℕ, false, true≢false, eqb, ◌<◌, sym, ◌∙◌, subst, arith}
use Rattle.std.proofs.lemmas.Bool.{cond-false, ne_eqb}
use Rattle.rational_theory.proofs.Compare.{eq_says}
use Rattle.simplex_theory.specs.Tableau.{Tableau, cell, height}
use Rattle.fraction_tableau.specs.NamedTableaus.{number_at}
use Rattle.program_builder.specs.Building.{IsMadeFor}
use Rattle.program_builder.specs.Opening.{artery_table}
use Rattle.program_builder.proofs.BuildingLaws.{made_row, made_pivot}
use Rattle.engine_tests.proofs.tests.program_builder_tests.tests.is_refused.Goals as goal

own_cell : (t : Tableau) (r k : ℕ) → r < height t → number_at t r k ≡ cell t r k
own_cell t r k h = cond-false (eqb r (height t)) _ _ (ne_eqb r (height t) (λ e. absurd (omega arith)))

pub returns-then-is_spent : goal.returns-then-is_spent
returns-then-is_spent c = subst (IsMadeFor c.args.artery.now) (sym c.load.ensures) (made_row (artery_table c.args.artery.now) 0 _ c.args.from.now c.args.tableau.now c.requires.made)

pub pivot-requires-clause-row : goal.pivot-requires-clause-row
pivot-requires-clause-row c =
    let m = subst (IsMadeFor c.args.artery.now) (sym c.load.ensures) (made_row (artery_table c.args.artery.now) 0 _ c.args.from.now c.args.tableau.now c.requires.made) in
    let e = m.rows ∙ sym c.requires.made.rows in
    omega arith

pub pivot-requires-clause-col : goal.pivot-requires-clause-col
pivot-requires-clause-col c =
    let m = subst (IsMadeFor c.args.artery.now) (sym c.load.ensures) (made_row (artery_table c.args.artery.now) 0 _ c.args.from.now c.args.tableau.now c.requires.made) in
    let e = m.columns in
    omega arith

pub pivot-requires-clause-pivot : goal.pivot-requires-clause-pivot
pivot-requires-clause-pivot c = λ z.
    let zero : c.cell.result ≡ c.whole.result = c.cell.ensures ∙ own_cell c.load.new.self.table 0 0 (pivot-requires-clause-row c) ∙ z ∙ sym c.whole.ensures in
    true≢false (sym ((eq_says c.cell.result c.whole.result false c.if-eq.ensures).1 zero))

pub returns : goal.returns
returns c =
    let m = subst (IsMadeFor c.args.artery.now) (sym c.load.ensures) (made_row (artery_table c.args.artery.now) 0 _ c.args.from.now c.args.tableau.now c.requires.made) in
    made_pivot (artery_table c.args.artery.now) 0 0 c.load.new.self c.pivot.new.self c.pivot.result m c.known_named.ensures.shaped c.known_named-2.ensures.shaped
    c.pivot.ensures.exchanged c.pivot.ensures.spent
