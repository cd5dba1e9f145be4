pub mod Faults
pub mod Meaning
pub mod Promises
pub mod Exchange
pub mod Plans
pub mod Exchanges
pub mod Meanings
