pub mod Fault
pub mod Reading
pub mod Component
