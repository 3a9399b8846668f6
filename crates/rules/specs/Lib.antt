-- The rules, in the order in which to read them. docs/READING.md says where each sentence of the paper stands.
pub mod Tests
pub mod Lists
pub mod Masks
pub mod Numbers
pub mod Table
pub mod Rows
pub mod Chassis
pub mod Answers
pub mod Mask
pub mod Order
pub mod Formed
pub mod Events
pub mod History
pub mod Demand
pub mod Marked
pub mod Claims
