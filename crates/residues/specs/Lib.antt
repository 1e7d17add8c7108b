pub mod Alphabets
pub mod Tables
