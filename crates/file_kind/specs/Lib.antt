pub mod Kinds
pub mod Looks
