-- What contracts say of values and calls of the code.
-- results of calls, compared with answers
pub mod Results
-- contents that are read in pieces
pub mod Streams
-- devices over memory, readers and writers
pub mod Views
-- a device that may be lent
pub mod Lent
-- calls that write while they read a content
pub mod Streaming
-- devices of tests that fail
pub mod Failing
-- what such devices do
pub mod FailingDevices
