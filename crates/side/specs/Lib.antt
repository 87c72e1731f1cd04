pub mod Meaning
pub mod Sides
pub mod Update
pub mod Download
