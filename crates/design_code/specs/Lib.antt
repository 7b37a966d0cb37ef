pub mod Verdicts
pub mod Loads
pub mod Meaning
pub mod Joining
