pub mod Held
pub mod Halves
pub mod Numbered
pub mod Rounds
