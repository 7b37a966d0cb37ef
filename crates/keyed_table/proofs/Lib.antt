pub mod Orders
pub mod Places
pub mod ByNumber
pub mod Frames
pub mod Lookups
