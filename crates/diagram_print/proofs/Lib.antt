pub mod ColumnNames
pub mod RowNames
pub mod Spans
