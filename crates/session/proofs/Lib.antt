-- Laws that the proofs of this crate's functions cite.
-- What a session says by its parts
pub mod Phases
-- The places of the lock list
pub mod Places
-- A lock by its tests in their order
pub mod Locking
-- What is stored into a list before, within and after a part of it
pub mod Stored
-- A session renewed in place
pub mod Fresh
-- One more lock in place
pub mod Enlisting
