-- What the engine promises. To be believed: Promise, Calls, Running, Looking, beside the words of the crate `words`. Inner has what the inner functions do.
pub mod Promise
pub mod Calls
pub mod Running
pub mod Looking
pub mod Inner
