pub mod Quotients
pub mod Repeats
pub mod Chains
pub mod Validity
