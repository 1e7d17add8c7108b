pub mod FourBases
pub mod BaseTable
pub mod Blocks
pub mod Named
pub mod Own
pub mod Ranges
pub mod Corrected
pub mod Answers
pub mod Exact
pub mod Decoded
pub mod Passed
pub mod Checked
mod Parts
