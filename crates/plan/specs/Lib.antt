-- Operations as data, and what was planned for a call.
-- A plan's operations, and the stores that they are
pub mod Plan
-- What was planned for a call
pub mod Planned
-- The plan in numbers, as a host is told it
pub mod Told
-- How operations become numbers
pub mod Numbers
