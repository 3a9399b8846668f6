-- What the exported functions leave, from what they call.
pub mod Laws
pub mod Unique
pub mod Sizes
