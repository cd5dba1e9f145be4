pub mod Numerals
pub mod Cuts
pub mod Readings
pub mod Room
pub mod Zeros
pub mod Lines
pub mod Nonzero
