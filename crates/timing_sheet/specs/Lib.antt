pub mod Moments
pub mod Records
pub mod Facts
pub mod Laws
