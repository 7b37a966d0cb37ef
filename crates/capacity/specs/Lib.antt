pub mod Terms
pub mod Strengths
pub mod Capacities
pub mod Figures
pub mod Shares
pub mod Told
pub mod Alike
