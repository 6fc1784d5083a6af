pub mod Sheets
pub mod Refusals
pub mod Covering
pub mod Order
