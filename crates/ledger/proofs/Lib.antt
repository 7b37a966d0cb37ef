pub mod Numbered
pub mod Kept
pub mod Strength
pub mod Accounts
pub mod Playing
