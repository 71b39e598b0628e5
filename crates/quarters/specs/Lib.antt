pub mod Quarter
pub mod Int16
pub mod Steps
pub mod Bounds
pub mod Bounding
