pub mod LinkSheets
