mod Rounding
pub mod Fine
pub mod Rules
pub mod Best
mod Once
