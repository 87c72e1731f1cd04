pub mod Numbering
pub mod Machine
pub mod Order
pub mod Run
