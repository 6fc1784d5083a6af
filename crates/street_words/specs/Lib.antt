pub mod Numbers
pub mod Patterns
pub mod Streets
pub mod Bounds
pub mod Warnings
pub mod Laws
