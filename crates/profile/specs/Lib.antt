-- What the reader of a profile gives, and the numbers by which its items are carried out.
pub mod Reader
pub mod Folded
