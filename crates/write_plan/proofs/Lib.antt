pub mod Stored
pub mod Rest
pub mod Whole
pub mod Verdicts
pub mod Ready
