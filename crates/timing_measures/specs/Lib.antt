pub mod Measures
pub mod Rounding
