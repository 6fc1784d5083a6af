pub mod WorkedLemmas
pub mod Fits
pub mod Crossings
pub mod Remainders
