mod Cuts
pub mod Scores
mod Rank
mod Multiples
mod Sizes
mod Runs
mod Rivals
mod Widths
mod Same
mod Bests
mod Moving
mod Pushes
mod Timings
mod Cycles
pub mod Nearest
