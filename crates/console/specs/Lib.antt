pub mod Faults
pub mod Grammar
pub mod Inputs
pub mod Parts
pub mod Replies
pub mod Texts
pub mod Words
