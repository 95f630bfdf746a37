-- Laws that the proofs of this crate and of its callers share.
-- The stores of a delete and of a tail write are those of the definitions
pub mod EntryPlans
-- What the executor asks of them
pub mod EntryReady
-- What was found in a clean region lies below its tail
pub mod Found
-- The stores of a compaction and of its second half are those of the definitions
pub mod CompactionPlans
-- What the executor asks of them
pub mod CompactionReady
-- The stores of a start-up, by the image that it begins on
pub mod StartUps
-- What is composed of the values and the changed one
pub mod Composed
-- What stands ready before a put
pub mod Ready
-- The values that the items of a profile store, entry by entry
pub mod Stored
-- The values after the items of a profile
pub mod Changed
-- A compaction with changes folded in
pub mod Folded
-- That of a joint change of PK and PlatMode
pub mod Joined
-- A put in the tail
pub mod Tail
-- The parts of the image that the code cuts, and what a look at them tells
pub mod Stages
-- The region that is composed where no value changes
pub mod AllCarried
-- A start-up, by what the image was found to be
pub mod Starting
-- A format
pub mod Formatting
