pub mod Measured
pub mod Rows
pub mod Frames
