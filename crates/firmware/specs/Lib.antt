-- What the exported functions promise.
pub mod Halves
pub mod Editions
pub mod Fields
pub mod Journals
pub mod Looks
pub mod Sizes
pub mod Claims
