-- What the customer asked for: Demands, and what it means that a function keeps a promise.
pub mod Entry
pub mod Demands
