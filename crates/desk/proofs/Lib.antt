-- Laws of this crate.
-- Steps at places of a script
pub mod Steps
-- A script as a whole
pub mod Scripts
-- Erases counted from a plan's operations
pub mod Erasing
-- What was counted is what was played
pub mod Counting
-- A step played
pub mod Playing
-- The desk's session, and the empty image
pub mod Desk
-- A season under way
pub mod Underway
-- Where a walk ends
pub mod Tails
-- Numbers of up to twenty digits
pub mod Texts
-- The paper's first value, and further scripts, by evaluation
mod Paper
