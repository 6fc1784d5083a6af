pub mod Bounds
pub mod Faults
pub mod Limits
pub mod Valid
pub mod Inside
