pub mod Sector
pub mod Walk
pub mod Answer
