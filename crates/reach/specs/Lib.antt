pub mod Reached
pub mod Settled
pub mod Answers
