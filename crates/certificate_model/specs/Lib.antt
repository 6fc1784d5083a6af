pub mod Words
pub mod Families
pub mod Warrants
