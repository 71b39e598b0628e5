pub mod Back
pub mod Fields
