pub mod Packing
pub mod Digit
pub mod Text
pub mod Number
pub mod Laws
