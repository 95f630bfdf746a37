-- Text as bytes, and what a function that writes text promises.
pub mod Text
