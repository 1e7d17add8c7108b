pub mod Letters
pub mod Alphabets
