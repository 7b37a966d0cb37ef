pub mod Algebra
pub mod Literally
pub mod Signs
pub mod Ratios
pub mod Sizes
pub mod Growing
