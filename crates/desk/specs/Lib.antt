-- The form of a script, what is played of it and printed, and what the contracts of this crate cite.
-- The form of a script
pub mod Script
-- What is played and printed
pub mod Season
-- What the reader of a script gives
pub mod Reader
-- Erases counted from a plan's operations
pub mod Erasing
-- What was played of a call or a step
pub mod Playing
