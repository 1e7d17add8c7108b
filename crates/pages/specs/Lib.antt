pub mod Page
pub mod Holds
