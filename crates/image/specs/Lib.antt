-- What rules 1 and 2 leave of an image.
pub mod Check
