-- Laws that the proofs of this crate and of its callers share.
-- The stores of operations, one after the other
pub mod Stores
-- What the executor's loop goes by
pub mod Carried
-- The marks of a plan clear one bit each
pub mod Bits
-- What was planned for a call
pub mod Parts
-- The plan in numbers
pub mod InNumbers
