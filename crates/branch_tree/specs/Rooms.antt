-- What the boxes of an artery are begun with.
use Rattle.progression.specs.Street.{Street}
use Rattle.program_builder.specs.Building.{IsLoadedFor}
use Rattle.program_builder.specs.Remembering.{IsMemoryOf}
use Rattle.branch_tree.specs.declared.artery.LoadedRows.{LoadedRows}

-- the rows of one of its boxes are loaded, and the memory was made for it
pub record AreLoadedRows (a : Street) (rows : LoadedRows) : Type 0 where
  pub loaded : IsLoadedFor a rows.loaded
  pub memory : IsMemoryOf a rows.memory
