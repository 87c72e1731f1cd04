pub mod Fault
pub mod Elements
pub mod Scan
