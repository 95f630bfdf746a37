-- The front of a plan
pub mod Fronts
-- The operations of a delete and of a tail write
pub mod Entries
-- Those of a compaction and of its second half
pub mod Compactions
-- Those of a format
pub mod Format
-- What a put asks for, and what it finds
pub mod Asked
