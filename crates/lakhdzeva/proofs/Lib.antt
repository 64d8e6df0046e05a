pub mod Lemmas
pub mod Verified
