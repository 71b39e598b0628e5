pub mod Places
pub mod Fronts
