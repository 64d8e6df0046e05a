-- The definitions, in reading order (docs/AUDIT.md).
-- steps that may refuse, and results compared with answers
pub mod Outcomes
-- octet strings
pub mod Octets
-- base64url texts
pub mod Base64url
-- the line end of a compact text
pub mod LineEnds
-- what a call did to an input and to an output
pub mod Devices
-- what a call is to write, by its content
pub mod Plan
-- contents that are encoded or decoded as they are read
pub mod Encoding
-- searches through all octet strings, on paper
pub mod Search
-- which devices failed, and that each failure is reported
pub mod Faults
-- how much is written when a content fails
pub mod Pumps
-- the numbers of the refusals
pub mod Refusals
-- values and calls of the code; no answer rests on these pages
pub mod Code
