-- The demands: the entries' own theorems, what is answered and left, and the whole.
pub mod Entries
pub mod Numbers
pub mod Answered
pub mod Demands
