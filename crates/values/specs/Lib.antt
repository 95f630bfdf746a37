-- What is found of a region.
pub mod Found
-- What a pass over the values counts.
pub mod Sums
-- Shares kept to
pub mod Allotted
-- The entries that hold values
pub mod Listed
