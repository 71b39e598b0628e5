pub mod Words
pub mod Front
