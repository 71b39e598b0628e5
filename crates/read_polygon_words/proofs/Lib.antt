pub mod Words
pub mod Below
