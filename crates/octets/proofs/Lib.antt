pub mod Filled
pub mod Shown
