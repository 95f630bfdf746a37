-- Laws that the proofs of this crate share.
-- An image of a right length, cut at its blocks
pub mod Cut
-- What a look at its parts tells
pub mod Look
-- What rules 1 and 2 tell of an image
pub mod Readiness
