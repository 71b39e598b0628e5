pub mod Obj
pub mod Room
