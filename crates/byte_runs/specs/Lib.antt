pub mod Packed
pub mod Blocks
pub mod Bytes
pub mod Rules
pub mod Bodies
