-- Encrypting (src/encrypt.rt and src/encrypt).
-- the template
pub mod Templates
-- the encryption that a template and keys settle
pub mod Settle
-- the keys of the recipients
pub mod RecipientKeys
-- the content encryption key and its deliveries
pub mod Deliver
-- the parameters that are written for a delivery
pub mod Parameters
-- the headers and recipients that are made of the deliveries
pub mod Recipients
-- the object that is settled for a plaintext
pub mod Objects
-- what is written may be read
pub mod SoundLimits
-- every plaintext has an object with texts
pub mod Texts
-- the plan, once all random octets are drawn
pub mod Plans
-- the texts around the ciphertext and the tag
pub mod Frames
-- a plaintext that is sealed while it is read
pub mod Sealing
-- the plan grows with the plaintext
pub mod Growth
-- an encrypted plaintext fills the frame
pub mod Ciphertext
-- the pairs of a key and the recipients that were made
pub mod Pairs
-- every encrypted object is decrypted
pub mod RoundTrip
