-- Laws of moves.
-- An entry with the zero stamp by its fields
pub mod Bare
-- The values of a region, carried over one by one
pub mod Carried
-- What the rules leave of a move
pub mod Checks
