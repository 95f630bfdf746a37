-- Laws about what the reader of a profile gives.
-- Numbers at places of a file
pub mod Numbers
-- Items at places of a file
pub mod Places
-- An array of items that is filled one by one
pub mod Filled
-- A profile as a whole
pub mod Whole
-- The items of an array from one on
pub mod Listed
-- Items that are compared one after another
pub mod Keys
