pub mod Gcd
pub mod Rational
pub mod Floor
pub mod Compare
pub mod Rows
pub mod laws
