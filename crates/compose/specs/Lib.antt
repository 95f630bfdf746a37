-- The bytes of an entry's header by its fields, and the values that a compaction carries over.
pub mod Compose
