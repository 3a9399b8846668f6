-- The proofs: each event's ways to end, then runs over a journal, calls in a row, and looks.
pub mod Promised
pub mod Rights
pub mod Asked
pub mod Heads
pub mod Judging
pub mod Ordered
pub mod Told
pub mod Went
pub mod Joined
pub mod Calls
pub mod Marked
pub mod Looked
pub mod Ranges
