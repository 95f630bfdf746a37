-- The claims beside Demand 3, which itself stands with the definitions in `model`.
pub mod Claims
-- Two sides in one session, and what holds of every history of it
pub mod Tenants
-- The functions of the interface, and what holds of every list of calls to them
pub mod Interface
-- A host that carries out plans by itself, and what holds of every run of it
pub mod Host
-- The lists of stores of 01, which w = 1 gives
pub mod Today
-- What the chip is asked to do: stores within a page
pub mod Chip
-- How fast the flash wears
pub mod Wear
