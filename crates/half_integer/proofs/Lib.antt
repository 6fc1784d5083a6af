pub mod HalfPlan
pub mod LineWidths
pub mod Lists
pub mod Made
pub mod Twice
pub mod Lefts
pub mod Centred
pub mod Ends
