-- Laws that the proofs of this crate's functions cite.
-- Lists of unequal lengths
pub mod Same
-- FF bytes from an offset on
pub mod Blank
-- The characters of a name from an offset on
pub mod Ended
-- Two lists compared from their ends
pub mod Agreed
-- A name tested in windows of its characters
pub mod Windows
