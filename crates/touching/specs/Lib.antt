pub mod Touch
pub mod Before
