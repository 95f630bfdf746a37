-- What `varlist` and `plainlist` print.
pub mod Varlist
