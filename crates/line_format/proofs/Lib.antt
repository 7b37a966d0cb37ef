pub mod First
pub mod Words
