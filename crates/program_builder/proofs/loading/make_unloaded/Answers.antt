use Rattle.std.proofs.Common.{subst}
use Rattle.program_builder.specs.Loading.{HasRoomFor}
use Rattle.program_builder.specs.ProgramTable.{ProgramTable}
use Rattle.program_builder.proofs.RowSets.{artery_table_is}
use Rattle.program_builder.proofs.loading.make_unloaded.Goals as goal

pub returns : goal.returns
returns c = subst (λ (p : ProgramTable). HasRoomFor p c.in_ok-tableau.tableau) (artery_table_is c.args.artery.now) c.in_ok-tableau.ensures
