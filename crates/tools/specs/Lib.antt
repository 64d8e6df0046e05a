-- The definitions, in reading order (docs/AUDIT.md).
-- which tool the arguments name, and what its words ask for
pub mod Words
-- why a tool refuses
pub mod Causes
-- the answer of jose-verify-all, and everything that it promises
pub mod VerifyAll
-- what the answer says of the keys
pub mod Headline
-- what the words of jose-set ask for
pub mod SetWords
-- why jose refuses words, and the lines of jose-look command
pub mod CommandWords
pub mod CommandLines
-- steps that give a value or a cause, and calls of the system
pub mod Calls
pub mod Steps
-- the sets that jose-set makes of whole texts
pub mod Sets
-- what jose-set does with its files, call by call
pub mod Changes
pub mod SetRequests
-- what the sets that jose-set makes read as, and what its calls say of its files
pub mod SetHeadline
pub mod ChangeLaws
-- what a terminal shows as it is
pub mod Printing
-- what jose-look shows of values, of keys and of texts, and what it does with its files
pub mod ShownValues
pub mod LookedKeys
pub mod LookedObjects
-- where jose refuses an object
pub mod Places
pub mod ItemPlaces
pub mod ObjectPlaces
pub mod Looks
pub mod LookCalls
pub mod LookWords
pub mod LookLaws
-- around the call: the last line and the status
pub mod Reports
pub mod ToolReports
pub mod ReportLaws
pub mod ToolEndings
-- around the call: a whole run over files
pub mod Runs
-- around the call: reading and writing whole files
pub mod Disks
-- calls of the code; no answer rests on this page
pub mod Code
pub mod SetViews
pub mod PlaceViews
pub mod CommandViews
