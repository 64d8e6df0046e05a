-- What contracts say of values and calls of the code.
-- rows of the table of commands
pub mod Rows
-- what the steps of a command promise
pub mod Steps
