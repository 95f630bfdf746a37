-- What is decided of a set, and the parts in which it is judged; what is decided of a profile, of a mode request, and where PK and PlatMode
-- change together.
pub mod Decision
pub mod Parts
pub mod Profile
pub mod Joint
pub mod Modes
