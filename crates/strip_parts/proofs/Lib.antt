pub mod Boxed
pub mod Halves
