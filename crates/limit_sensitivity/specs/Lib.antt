pub mod Rows
pub mod Gains
pub mod Table
pub mod Report
pub mod Says
