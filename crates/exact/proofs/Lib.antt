pub mod Split
pub mod Order
pub mod Rounding
