pub mod Stretches
pub mod Starts
pub mod Packing
pub mod Entries
pub mod Both
pub mod Turns
pub mod Answers
pub mod Plain
pub mod PlainBytes
pub mod Back
pub mod Read
pub mod Decodes
pub mod Exact
mod Parts
