pub mod FamilyTables
pub mod KeptNodes
