pub mod Unique
pub mod Runs
pub mod Parts
pub mod Bytes
pub mod Formed
pub mod Examples
