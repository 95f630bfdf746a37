-- Laws that the proofs of this crate share.
-- The number of a field, and when data in two parts meet a rule
pub mod Fields
-- Rule 21 by whether data would stand, and which
pub mod Tried
