pub mod Before
pub mod Entries
pub mod Seams
