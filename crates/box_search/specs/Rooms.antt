-- Where the boxes of what is sought are opened.
use Rattle.program_builder.specs.Loading.{HasRoomFor}
use Rattle.box_search.specs.declared.room.Room.{Room}
use Rattle.box_search.specs.BoxRuns.{table_of}
use Rattle.box_search.specs.Program.{Program}

-- the tableau was made for the program's rows and columns, and boxes can be begun with the rest
pub record IsRoomFor {T W S : Type 0} (p : Program T W) (IsSpare : S → Type 0) (room : Room S) : Type 0 where
  pub made : HasRoomFor (table_of p) room.tableau
  pub spare : IsSpare room.spare
