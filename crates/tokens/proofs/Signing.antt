-- Signing (src/sign.rt and src/sign).
-- the template, and the signers that it settles
pub mod Templates
-- the object that keys and a template settle for every payload
pub mod Objects
-- an object is built alike with every payload and all signatures
pub mod Alike
-- every payload has an object with texts
pub mod Texts
-- the texts around the payload and the signatures
pub mod Frames
-- the plan grows with the payload
pub mod Growth
-- a signed payload fills the frame
pub mod Payload
-- the signatures that are written one after another
pub mod Signatures
-- every signed object is verified
pub mod RoundTrip
