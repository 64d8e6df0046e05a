-- What contracts say of values and calls of the code.
-- what a computation over pieces holds
pub mod Views
-- the opening of CBC, and of GCM
pub mod Opening
-- blocks of GHASH times x
pub mod Shifts
