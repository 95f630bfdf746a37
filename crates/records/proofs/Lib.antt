-- Laws of a look at a work block.
-- The records passed one at a time
pub mod Passed
-- The whole block
pub mod Block
