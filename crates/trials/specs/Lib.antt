-- a block cipher for tests
pub mod Toy
