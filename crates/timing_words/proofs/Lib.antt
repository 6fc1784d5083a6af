pub mod GreenWays
pub mod Rounds
