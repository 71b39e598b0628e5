pub mod Ends
pub mod Tree
pub mod Rest
