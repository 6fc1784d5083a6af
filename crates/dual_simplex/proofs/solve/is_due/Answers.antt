use Rattle.std.proofs.Common.{sym, ◌∙◌}
use Rattle.simplex_theory.proofs.BlandRule.{chosen_row_in}
use Rattle.dual_simplex.proofs.Dues.{due_some, due_none}
use Rattle.dual_simplex.proofs.solve.is_due.Goals as goal

pub has_negative-requires : goal.has_negative-requires
has_negative-requires c = (chosen_row_in c.args.tableau.now.table c.in-Some.row (sym c.in-Some.ensures)).0

pub returns-in-None : goal.returns-in-None
returns-in-None c = sym (due_none c.args.tableau.now.table c.in-None.ensures)

pub returns-in-Some : goal.returns-in-Some
returns-in-Some c = c.has_negative.ensures ∙ sym (due_some c.args.tableau.now.table c.in-Some.row c.in-Some.ensures)
