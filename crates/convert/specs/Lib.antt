-- The bytes that a move composes, and what it finds before it begins.
pub mod Bare
