pub mod Kinds
pub mod Writing
pub mod Messages
pub mod Worked
