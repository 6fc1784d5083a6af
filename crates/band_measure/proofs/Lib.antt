pub mod Gaps
pub mod Coarse
pub mod Lines
pub mod AllGrids
pub mod WidestGreens
pub mod Tries
pub mod Parts
pub mod Cuts
