pub mod Step
pub mod Marks
