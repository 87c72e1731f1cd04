pub mod Padding
pub mod Laws
pub mod Text
