pub mod Numberings
pub mod Strands
pub mod Grows
pub mod Runs
pub mod Came
pub mod Sorted
pub mod Alike
