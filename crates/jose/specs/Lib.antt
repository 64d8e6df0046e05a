-- The definitions, in reading order (docs/AUDIT.md).
-- the draft of a made key
pub mod Jwk
-- the devices of a run
pub mod Ports
-- a command with its options
pub mod Invocations
-- a row for each command
pub mod Commands
-- an equation for each command
pub mod Meanings
-- the answer of a run, and what a refusal leaves
pub mod Answer
-- everything that a run promises
pub mod Doing
-- what the commands promise together
pub mod Headline
-- that answers stay the same under wider limits
pub mod WiderLimits
-- around `run`: the words of a command line
pub mod Words
-- around `run`: reading files and streams
pub mod Reading
-- around `run`: which files are opened
pub mod Files
-- around `run`: what the system does
pub mod System
-- around `run`: a whole run over files
pub mod Runs
-- around `run`: the last line and the status
pub mod Reports
-- values and calls of the code; no answer rests on these pages
pub mod Code
