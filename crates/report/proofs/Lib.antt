-- Laws of what `varlist` prints, and its text for known images.
-- The lines of values, for a loop that writes them
pub mod Lines
-- What the check of an image tells the report
pub mod Accepted
-- The paper's first case, and a store without values
mod Paper
