pub mod Keys
pub mod Writes
