pub mod Nearest
pub mod Pieces
pub mod Sizes
pub mod SomeTicks
