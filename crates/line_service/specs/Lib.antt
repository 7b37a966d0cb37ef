pub mod Manner
pub mod Lines
pub mod Front
pub mod Feeding
pub mod Whole
