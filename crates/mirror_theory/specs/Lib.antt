pub mod EqualBands
pub mod Runs
pub mod Built
pub mod Promises
