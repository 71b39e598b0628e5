pub mod Section
pub mod Places
