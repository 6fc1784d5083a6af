use Rattle.std.proofs.Common.{sym, ◌∙◌, ap}
use Rattle.named_row.specs.Sheets.{Sheet}
use Rattle.simplex_theory.specs.Tableau.{width}
use Rattle.fraction_tableau.specs.NamedTableaus.{NamedTableau}
use Rattle.program_builder.specs.ProgramTable.{program_table}
use Rattle.program_builder.proofs.LoadedBoxes.{same_columns, loaded_is}
use Rattle.program_builder.proofs.loading.load.Goals as goal

pub load_goal-requires-clause-columns : goal.load_goal-requires-clause-columns
load_goal-requires-clause-columns g c =
    let table = program_table (g.R.RowTable.rows c.args.rows.now) in
    c.fill_goal.ensures.width
    ∙ sym (ap (λ (t : NamedTableau). width t.table) c.load_rows.ensures.loaded ∙ same_columns table c.args.area.now c.args.tableau.now ∙ c.requires.made.columns)

pub returns-clause-loaded : goal.returns-clause-loaded
returns-clause-loaded g c =
    let table = program_table (g.R.RowTable.rows c.args.rows.now) in
    c.load_goal.ensures
    ∙ loaded_is table c.args.area.now c.args.tableau.now c.load_rows.new.tableau c.fill_goal.new.into c.requires.made c.load_rows.ensures.loaded (ap (λ (r : Sheet). r.coefs) c.fill_goal.ensures.row)
