-- What the engine's inner functions do. No public promise cites this.
pub mod Sought
pub mod Ordering
pub mod Heads
pub mod Telling
pub mod Places
