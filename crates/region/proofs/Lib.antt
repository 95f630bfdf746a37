-- Laws that the proofs of this crate share.
-- A turn of the walk: what an entry found, or none, says of the walk from there on
pub mod Turns
-- An entry where it stands is the one that the walk places there
pub mod Standing
-- What `find` and `any` over the entries answer
pub mod Searching
-- The name and GUID of an entry as parts of the region
pub mod Entries
-- The tests of one entry, and what they decide of it
pub mod Judging
-- One turn of each loop over the entries
pub mod Scanning
-- The judgement of a whole region
pub mod Whole
-- Names judged against those before them
pub mod Passing
-- Where a sought name is met among them
pub mod Meetings
-- The same by marks
pub mod Marked
-- The same by places in a table
pub mod Settled
-- A usual entry
pub mod Usuals
-- How long its name and data can be
pub mod Lengths
