-- Definitions that the contracts of this crate cite.
-- Rules broken by a set, over data in two parts
pub mod Broken
