-- The parts of what the rules say of the call itself.
pub mod Descriptor
pub mod Verdict
