-- The laws: rows and words from the bottom up, then what each event does to words.
pub mod Rows
pub mod Closing
pub mod Image
pub mod View
pub mod Changes
pub mod Same
pub mod Tested
pub mod Checks
pub mod Does
pub mod Keeps
pub mod Pooled
pub mod Rejoined
pub mod Seeing
pub mod Started
pub mod Values
