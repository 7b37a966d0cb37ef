pub mod Deciding
pub mod Shop
pub mod Figures
pub mod Verdicts
pub mod Soundness
pub mod Decided
pub mod Figured
pub mod Alike
