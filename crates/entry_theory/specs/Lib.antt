pub mod Least
pub mod Entry
pub mod Basics
pub mod Directions
pub mod SameCells
pub mod Ready
pub mod Promises
