-- Laws that the proofs of this crate and of its callers share.
-- What one turn of the walk says of the entries that are seen
pub mod Seen
-- Where the entry that holds a name's value begins, and that none before it does
pub mod Leading
-- The entries found hold the values that the rules name
pub mod Held
-- Many names sought in one walk
pub mod Several
