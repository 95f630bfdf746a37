-- Which entry a get and a next-name answer with.
pub mod Query
-- Many names sought at once.
pub mod Many
