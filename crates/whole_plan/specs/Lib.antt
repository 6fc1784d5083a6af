pub mod Cycles
pub mod Sought
pub mod Sets
pub mod Choice
pub mod Planned
