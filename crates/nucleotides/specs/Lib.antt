pub mod TwoBit
pub mod Pieces
pub mod Table
pub mod Write
pub mod Holds
pub mod Stands
pub mod Scan
