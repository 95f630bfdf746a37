-- Laws that the proofs of this crate's functions and of its callers cite.
-- A descriptor's parts, data proper, and the stamp as far as it is read
pub mod Descriptor
-- Two stamps compared
pub mod Stamps
