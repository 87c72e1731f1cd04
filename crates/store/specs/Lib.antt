pub mod Records
pub mod Calls
pub mod Rows
pub mod Laws
