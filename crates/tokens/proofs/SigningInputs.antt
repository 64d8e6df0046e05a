-- Signing inputs (src/signing_input.rt).
-- inputs that are started one after another
pub mod Start
-- inputs that take a piece, one after another
pub mod Each
-- base64url text that is fed in pieces
pub mod Encoded
