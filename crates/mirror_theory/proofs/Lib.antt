pub mod Centring
pub mod Ways
pub mod Carried
pub mod Widest
pub mod Candidates
pub mod Built
pub mod Phases
pub mod Kept
