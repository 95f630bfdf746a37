-- What a look at a work block tells.
pub mod Look
-- The records passed one at a time.
pub mod Passed
