pub mod Once
pub mod Codes
pub mod Profile
pub mod Stay
