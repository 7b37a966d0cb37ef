pub mod Faults
pub mod Ledger
pub mod Orders
pub mod Table
pub mod Runs
