pub mod Coprime
pub mod Fractions
