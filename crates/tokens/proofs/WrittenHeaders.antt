-- Headers that are written, and joint headers.
-- the entries of a map and the members that they represent
pub mod Members
-- the texts of headers, and what they read back as
pub mod Texts
-- headers with entries inserted
pub mod Joint
