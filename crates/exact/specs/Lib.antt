pub mod Fraction
pub mod Signed
pub mod Laws
pub mod Deciding
pub mod Rounding
pub mod Pi
