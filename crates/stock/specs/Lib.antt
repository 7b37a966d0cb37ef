pub mod Events
pub mod Rows
pub mod Gathering
pub mod Marks
pub mod Stocks
pub mod Checks
