-- What the calls answer, where the code goes by parts.
-- The calls that read
pub mod Read
-- Many gets in one call
pub mod Many
-- A start-up
pub mod Shares
-- Profiles
pub mod Profile
-- Sets
pub mod Write
-- Mode requests
pub mod Modes
