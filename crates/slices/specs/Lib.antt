-- Where two lists agree, and numbers of several bytes; the characters of a name.
pub mod Agree
pub mod Characters
