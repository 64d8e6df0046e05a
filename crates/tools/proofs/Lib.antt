pub mod Verified
pub mod Headline
pub mod Numbers
pub mod Doing
pub mod Objects
pub mod JoinedKeys
pub mod LeftObjects
pub mod Printable
pub mod WholeFiles
pub mod KeyObjects
pub mod SetLaws
pub mod ChangeLaws
pub mod ReportLaws
pub mod LookLaws
pub mod LookedKeys
-- the first of the places of an object
pub mod Places
pub mod ShownPlaces
-- tests of the elements of a list, seen by a view
pub mod Entries
pub mod AsAsked
