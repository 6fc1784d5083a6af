pub mod Pairs
pub mod Widest
pub mod Edges
pub mod Widths
pub mod Tried
pub mod Cut
