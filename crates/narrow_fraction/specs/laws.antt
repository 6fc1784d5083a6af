pub mod Fraction
pub mod Views
