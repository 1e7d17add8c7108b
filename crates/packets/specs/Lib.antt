pub mod Positions
pub mod Packing
pub mod Runs
pub mod Reading
pub mod Ends
pub mod Rules
pub mod Bytes
pub mod Decoded
