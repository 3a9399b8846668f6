-- The journal: the bytes of its records, reading one and writing one; the lines, and the whole text, that a journal gives.
pub mod Bytes
pub mod Records
pub mod Tags
pub mod Reading
pub mod Writing
pub mod Lines
pub mod Text
pub mod Paper
pub mod Claims
pub mod Spelling
