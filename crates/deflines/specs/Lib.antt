pub mod Numbered
pub mod Fields
pub mod Identifiers
pub mod Calls
pub mod Answers
pub mod Kinds
pub mod Written
