pub mod Rated
pub mod Rules
pub mod Rates
