pub mod Blocks
pub mod Iterates
