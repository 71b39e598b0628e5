pub mod Distinct
pub mod Numbers
pub mod Members
