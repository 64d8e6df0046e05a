-- What contracts say of values and calls of the code.
-- what calls ask of keys and parameters
pub mod Demands
-- a key with a salt input
pub mod Salted
-- what a computation over pieces holds
pub mod Views
