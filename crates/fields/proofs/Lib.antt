pub mod Bytes
pub mod Over
pub mod Puts
pub mod Cuts
pub mod Holds
pub mod Rows
pub mod Examples
