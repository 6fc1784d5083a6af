pub mod Ticks
pub mod Placing
pub mod Vertices
pub mod Splitting
pub mod Promises
pub mod Worked
