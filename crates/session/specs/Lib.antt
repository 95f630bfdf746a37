-- Definitions that the contracts of this crate cite.
-- The places of the lock list
pub mod Places
-- What a session says to a call, by its parts
pub mod Said
-- What is written into a session in its host's memory
pub mod Written
