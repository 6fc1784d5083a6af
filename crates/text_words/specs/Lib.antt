pub mod Lines
pub mod Owed
pub mod Grammar
pub mod Faults
pub mod Claims
pub mod Plans
