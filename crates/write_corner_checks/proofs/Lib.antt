pub mod Faults
pub mod Answers
pub mod Corners
