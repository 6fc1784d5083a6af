use Rattle.std.proofs.Common.{sym, ◌∙◌, ap, subst}
use Rattle.program_builder.specs.Loading.{HasRoomFor, loaded_rows}
use Rattle.program_builder.specs.ProgramTable.{ProgramTable}
use Rattle.program_builder.proofs.RowSets.{artery_table_is}
use Rattle.program_builder.proofs.loading.load_box.Goals as goal

pub load-requires-clause-made : goal.load-requires-clause-made
load-requires-clause-made c = subst (λ (p : ProgramTable). HasRoomFor p c.args.tableau.now) (sym (artery_table_is c.args.artery.now)) c.requires.made

pub returns-clause-loaded : goal.returns-clause-loaded
returns-clause-loaded c = c.load.ensures.loaded ∙ ap (λ (p : ProgramTable). loaded_rows p c.args.area.now) (artery_table_is c.args.artery.now)
