pub mod Walker
pub mod Label
pub mod Holds
