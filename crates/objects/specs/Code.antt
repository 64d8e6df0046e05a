-- What contracts say of values and calls of the code.
-- objects and their parts
pub mod Views
-- the parameters of key management
pub mod KeyManagementView
-- parameters that are read once for all recipients
pub mod SharedParameters
-- what a base64url text that is kept stands for
pub mod Meaning
-- texts that are written, with places left for values
pub mod Writing
-- the texts of a signed object
pub mod JwsWriting
-- the texts of an encrypted object
pub mod JweWriting
-- signed objects that are made without reading them again
pub mod Making
-- encrypted objects that are made without reading them again
pub mod JweMaking
-- the texts around a content, and what fills them
pub mod Frames
