pub mod Tabs
pub mod Tens
