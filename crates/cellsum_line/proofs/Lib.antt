pub mod Outcomes
pub mod Vehicle
