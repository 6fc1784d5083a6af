mod Tests
mod Multiples
mod Speeds
mod Numbers
mod Moves
mod Validity
pub mod Timings
