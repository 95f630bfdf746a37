-- What the reader of an entry finds.
pub mod Head
-- A digit of a record's name
pub mod Digits
