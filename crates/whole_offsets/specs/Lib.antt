pub mod Scale
pub mod Offsets
pub mod Moves
pub mod Score
pub mod Steady
pub mod Measured
pub mod Lines
pub mod Tried
