-- A check and a mode, told in numbers
pub mod Told
-- What a session says, told by its parts
pub mod Said
