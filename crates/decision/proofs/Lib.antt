-- Laws that the proofs of this crate's functions and of its callers cite.
-- The first broken rule of two lists
pub mod Broken
-- The value that stands, by what was found
pub mod Old
-- The sizes of the values by class
pub mod Classes
-- Those of some values after changes, and room by them
pub mod Changing
-- PlatMode's change that goes with one of PK
pub mod Together
-- Room after the tail
pub mod AfterTail
-- The decision by the parts in which it is judged
pub mod Assembled
-- What a decision says of the call, of the change and of the room
pub mod Accepted
-- The weight of an item of a profile
pub mod Weighing
-- Items one after another
pub mod Passing
-- Room for all items
pub mod RoomOfItems
-- Room where PK and PlatMode change together
pub mod JointRoom
-- The decision where they do
pub mod JointDecision
-- A mode request, by the mode
pub mod Transitions
