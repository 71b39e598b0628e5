pub mod Said
pub mod Onward
