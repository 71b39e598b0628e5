pub mod Record
pub mod Floats
pub mod Words
