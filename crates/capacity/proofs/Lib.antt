pub mod Sizes
pub mod Allowable
pub mod ShareSizes
pub mod Rounded
pub mod Pairs
pub mod Positives
pub mod Summed
