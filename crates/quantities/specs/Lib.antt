pub mod Held
pub mod Classes
pub mod Faults
pub mod Durations
pub mod Measures
pub mod Bundles
