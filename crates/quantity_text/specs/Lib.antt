pub mod Decimal
pub mod Exact
pub mod Quantity
