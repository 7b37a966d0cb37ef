pub mod Holding
pub mod Bundled
