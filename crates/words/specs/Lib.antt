-- The chassis as words. To be believed: Layout, Words and what is claimed of them. Inner has what the engine's inner functions do: no public
-- promise cites it.
pub mod Layout
pub mod Words
pub mod Claims
pub mod Inner
