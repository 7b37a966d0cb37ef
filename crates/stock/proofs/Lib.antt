pub mod Gathers
pub mod Restored
pub mod Wrapped
pub mod Ghosts
pub mod Moving
