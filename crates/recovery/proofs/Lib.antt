-- The proof of Demand 3 and of the claims beside it.
-- What holds however a list of stores is cut
pub mod Cuts
-- The invariant of a run
pub mod Invariant
-- A compaction, however cut
pub mod Compaction
-- A start-up, however cut
pub mod StartingUp
-- Marks of entries' states, however cut; a delete
pub mod Marks
-- The writing of an entry in the tail, however cut
pub mod TailWrite
-- A set that breaks no rule, however cut
pub mod Sets
-- Every call alike: refused, or what its kind does
pub mod EveryCall
-- Runs: the invariant with the book, and Demand 3
pub mod Theorem
-- A call that is done, and what a set and a profile leave
pub mod Done
-- What a side sees, and what its values take of its share
pub mod Views
pub mod Shares
-- What a side's call changes is of its own names
pub mod Owned
-- The claims beside Demand 3
pub mod Claims
-- Sets and profiles keep to the shares, so a start-up that is given them is not refused
pub mod Usable
-- The lock list of a session of a start-up
pub mod Locking
-- A side's set or profile is judged by what the side sees
pub mod Judging
-- Nothing that one side asks alters what the other is told or sees
pub mod Isolation
-- 01's cases
pub mod Alone
-- Lists of bytes: what is written for a value, and what an image of bytes holds
pub mod ByteLists
-- Stores that raise no bit, and marks that clear one
pub mod Clearing
-- The same of a compaction, a start-up and formatting
pub mod BitsOfCompaction
-- The same of changes
pub mod BitsOfSets
-- The two claims about bits, of every call
pub mod Bits
-- With w = 1 the lists of stores are 01's; with no dead byte, the answers
pub mod Today
-- Every store lies within one page; bytes that fill blocks are stored as whole pages
pub mod Chip
-- So are those of every compaction; what is written leaves the same for every w
pub mod WholePages
-- Numbers of stores, worked out
pub mod Counts
-- The interface: by their contracts, calls to it are a run
pub mod Interface
-- And calls of two sides are a history
pub mod Uses
-- A host that carries out plans by itself: what it was told is what the definitions plan
pub mod Host
-- Its sets and profiles keep to shares under which they are planned
pub mod HostShares
-- And its calls of two sides are a history
pub mod HostUses
-- The platform's mode: it makes the paper's steps, and changes together with PK or not at all
pub mod Modes
-- How audit and deployed are left: by a set of PK with its verdict
pub mod Leaving
-- What a query tells; and the other side alters nothing of it
pub mod Query
pub mod QueryApart
-- How fast the flash wears
pub mod Wear
-- How many start-ups have stores to make
pub mod Unfinished
-- How often each block is erased
pub mod Erasing
-- The work block's own
pub mod WorkErases
-- The bounds on erases of a run, and the planners' figure
pub mod Figure
