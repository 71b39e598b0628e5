pub mod Quarters
pub mod Sweep
pub mod Examples
