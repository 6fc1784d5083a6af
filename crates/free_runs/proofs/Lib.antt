mod Ticks
mod Lists
pub mod Ways
mod Outer
mod FinerWays
