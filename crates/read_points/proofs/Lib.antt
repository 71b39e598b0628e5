pub mod Stores
pub mod Puts
pub mod Shorts
pub mod Turned
