-- What contracts say of values and calls of the code.
-- keys, sets and values
pub mod Views
