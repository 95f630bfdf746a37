-- Laws that the proofs of this crate share.
-- The first rule broken of two lists, and what the rules of a call that reads tell in stages
pub mod Opened
-- What a call that reads answers, of the value found
pub mod Reading
-- One get after another
pub mod Several
-- Bytes copied to the front of a buffer
pub mod Copying
-- The marks of a call clear one bit each
pub mod Bits
-- A set, by what was decided
pub mod Setting
-- How a call ends that was planned and carried out
pub mod Carrying
-- What a query answers
pub mod Rooms
-- The plan of a start-up, by what was found
pub mod Starts
-- A profile, by what was decided of its items
pub mod Profiling
-- A mode request, by what was decided of it
pub mod Requesting
