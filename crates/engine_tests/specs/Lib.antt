pub mod Capped
pub mod CappedRules
pub mod laws
