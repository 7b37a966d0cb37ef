pub mod Verbs
pub mod Faults
pub mod Lines
pub mod Requests
