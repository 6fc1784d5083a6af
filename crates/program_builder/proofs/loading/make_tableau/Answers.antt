use Rattle.std.proofs.Common.{sym, subst}
use Rattle.program_builder.specs.ProgramTable.{program_table}
use Rattle.program_builder.specs.Loading.{HasRoomFor}
use Rattle.program_builder.proofs.LoadedBoxes.{made_blank}
use Rattle.program_builder.proofs.loading.make_tableau.Goals as goal

pub returns : goal.returns
returns g c =
    let table = program_table (g.R.RowTable.rows c.args.rows.now) in
    subst (HasRoomFor table) (sym c.in_ok-tableau.ensures) (made_blank table c.row_count-height.result c.columns-width.result c.row_count-height.ensures c.columns-width.ensures)
