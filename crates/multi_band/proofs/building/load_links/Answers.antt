use Rattle.std.proofs.Common.{sym, ◌∙◌, ap, subst}
use Rattle.program_builder.specs.Loading.{HasRoomFor, loaded_rows}
use Rattle.program_builder.specs.ProgramTable.{ProgramTable}
use Rattle.multi_band.proofs.LinkTables.{link_table_is}
use Rattle.multi_band.proofs.building.load_links.Goals as goal

pub load-requires-clause-made : goal.load-requires-clause-made
load-requires-clause-made c = subst (λ (p : ProgramTable). HasRoomFor p c.args.tableau.now) (sym (link_table_is c.args.artery.now)) c.requires.made

pub returns-clause-loaded : goal.returns-clause-loaded
returns-clause-loaded c = c.load.ensures.loaded ∙ ap (λ (p : ProgramTable). loaded_rows p c.args.area.now) (link_table_is c.args.artery.now)
