pub mod Rolls
pub mod Entries
