pub mod Index
pub mod Tables
pub mod Volume
pub mod Holds
