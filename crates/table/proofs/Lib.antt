-- Cases that are proved of the definitions, by evaluation on the real sizes.
-- Lists of stores as pieces laid over an image
pub mod Pieces
-- A row of a table of cases, and what the rows are made of
pub mod Row
-- How a row is shown to hold
pub mod Held
-- Images of runs, by pieces; runs that refute a claim
pub mod Runs
-- The cases with a star of "Values to try": one table, one theorem
pub mod Table
-- Cases beyond those with a star
pub mod Readings
-- 02 (b): appends out of order
pub mod Appends
-- 02 (d): moves between the two stored forms
pub mod Moves
-- Calls that make no stores, and formatting
pub mod Replies
-- Cases of 02 (h)
pub mod Worn
-- 02 (a): hardware error records
pub mod Records
-- 02 (e): settings that must make sense
pub mod Settings
-- 02 (f): two sides in one region
pub mod Tenants
-- 02 (g): many-gets
pub mod Many
-- 02 (l): profiles
pub mod Profiles
-- 02 (j): modes
pub mod Modes
