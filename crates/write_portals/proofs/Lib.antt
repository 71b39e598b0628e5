pub mod Records
pub mod Turns
