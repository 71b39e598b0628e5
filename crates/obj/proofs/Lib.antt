pub mod Outcomes
pub mod Theorems
pub mod Examples
