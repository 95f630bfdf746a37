-- What a turn of the walk finds, and what is judged of a region.
pub mod Walk
pub mod Judge
pub mod Marks
pub mod Met
pub mod Sorted
pub mod Stored
