-- Laws that the proofs of this crate and of its callers share.
-- What one turn of the walk says of the first entry that passes a test
pub mod Finds
-- The values from an offset on
pub mod Listed
-- What is found is the entry that the numbers found make up; the values taken one by one
pub mod Stands
-- The data of an entry as a part of the region, and its size
pub mod Sizes
-- The values from an offset on, by what the search for the next one finds, and how many there are
pub mod Next
-- A pass over the values: what is counted, and what is still to come
pub mod Counting
-- Shares kept to
pub mod Allotted
