pub mod Books
pub mod Tickets
pub mod Looks
