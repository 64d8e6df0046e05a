-- What contracts say of values and calls of the code.
-- signers, recipients and plans
pub mod Views
-- signing inputs that are fed in pieces
pub mod SigningInputs
-- signatures that are compared in pieces
pub mod VerifyingInputs
-- signers that are counted
pub mod Deciding
-- the signatures for which HMACs are made
pub mod Heads
-- contents that are written in the places of a text
pub mod Framing
-- contents that are sealed as they are read
pub mod SealedTexts
-- the work of decrypting
pub mod Work
-- what a key may do
pub mod Uses
-- pairs that are tried, and what is known of earlier ones
pub mod Trying
