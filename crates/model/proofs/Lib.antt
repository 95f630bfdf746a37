-- Laws about the definitions.
-- Writes and their stores: composition, pages, and what a run of bytes leaves
pub mod Stores
-- Pages, as a loop that stores meets them
pub mod Pages
-- Stores that fail at dead addresses
pub mod Failing
-- Boolean tests, and tests of equal lists and names
pub mod Tests
-- Tables by their places, as a loop meets them
pub mod Tables
-- One segment of an image under stores within it
pub mod Segments
-- The three parts of an image
pub mod Parts
-- The walk from an offset on, as a loop over the entries meets it
pub mod Walking
-- The walk over a region: chunks of entries, and marks of their states
pub mod Chunks
-- The values of a list of entries, under marks and one more entry
pub mod Values
-- Values written as entries and read back; a region of values
pub mod Encode
-- The work block under its marks
pub mod WorkBlock
-- Changes one after another
pub mod Changes
-- What is put and removed under PlatMode's name
pub mod Joint
-- What the rules leave of a call that breaks none
pub mod Requests
-- A start-up that is given nothing
pub mod Given
-- A place of the lock list, and one more lock
pub mod Locks
-- A move between forms
pub mod Moving
-- Which values the rules of a set look at
pub mod Looking
-- The space of the values of a class after a change
pub mod Space
-- Items of a profile over the values as a call finds them
pub mod Alone
-- What changes of different names leave, as a compaction writes it
pub mod Folding
-- The items that a profile's file asks for
pub mod Files
-- A profile that breaks no rule
pub mod Profiles
-- How the platform's modes follow one another
pub mod Modes
-- Every definition opened at once, for proofs by evaluation
pub mod Evaluated
