pub mod HalfPlan
pub mod Bands
pub mod Fitting
pub mod Uneven
pub mod TooFine
pub mod Phases
pub mod Answers
