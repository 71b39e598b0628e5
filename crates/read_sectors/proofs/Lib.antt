pub mod Data
pub mod Exact
pub mod Answers
pub mod Steps
