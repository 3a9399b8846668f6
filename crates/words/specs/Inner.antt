-- What the engine's inner functions do. No public promise cites this.
pub mod Parts
pub mod Leaving
pub mod Tested
