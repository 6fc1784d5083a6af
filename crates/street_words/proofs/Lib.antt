mod Loops
mod Multiples
mod Grids
mod Tolds
mod BoundLaws
mod WarningLaws
