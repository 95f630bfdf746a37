-- Laws of texts and of their writing.
-- Texts written one behind the other
pub mod Writing
-- Hexadecimal and decimal digits
pub mod Digits
-- Texts written out, and digits read back
mod Readings
