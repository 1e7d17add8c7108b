pub mod Steps
pub mod Labels
pub mod Written
