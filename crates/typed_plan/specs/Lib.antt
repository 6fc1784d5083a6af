pub mod Asked
pub mod Counts
pub mod Ends
pub mod Grid
