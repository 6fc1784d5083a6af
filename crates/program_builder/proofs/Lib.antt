pub mod UnitRefusals
pub mod NeverWide
pub mod LoadedRows
pub mod LoadedBoxes
pub mod RowKinds
pub mod Narrowing
pub mod LineCells
pub mod UnitPivots
pub mod RowCounts
pub mod OpeningLaws
pub mod BuildingLaws
pub mod FirstRows
pub mod RowOrder
mod EntryRefusals
pub mod Entry
pub mod First
mod EntryPivots
mod BoundPivots
mod RememberedPivots
mod SameLoaded
mod WrittenBounds
mod WrittenRows
mod Memories
pub mod LoadedTables
pub mod ArteryTables
pub mod StartPivots
pub mod CommonParts
pub mod UnitFits
pub mod BoxBounds
pub mod RowSets
