-- Laws of composed entries and regions.
-- The bytes of a header and of an entry, by their parts
pub mod Headers
-- The values that are carried over
pub mod Carried
-- Places left out are names left out
pub mod Leaving
-- What is composed is what a compaction stores
pub mod Encoded
