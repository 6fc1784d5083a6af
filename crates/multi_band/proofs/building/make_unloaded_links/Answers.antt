use Rattle.std.proofs.Common.{subst}
use Rattle.program_builder.specs.Loading.{HasRoomFor}
use Rattle.program_builder.specs.ProgramTable.{ProgramTable}
use Rattle.multi_band.proofs.LinkTables.{link_table_is}
use Rattle.multi_band.proofs.building.make_unloaded_links.Goals as goal

pub returns : goal.returns
returns c = subst (λ (p : ProgramTable). HasRoomFor p c.in_ok-tableau.tableau) (link_table_is c.args.artery.now) c.in_ok-tableau.ensures
