-- Laws that the proofs of this crate's functions cite.
-- The bytes of a number
pub mod Bytes
-- The name of an entry as a part of the bytes
pub mod Named
-- A record's name by its length and its bytes
pub mod Records
-- Whose a name is
pub mod Owners
