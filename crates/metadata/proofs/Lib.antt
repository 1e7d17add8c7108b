pub mod Closings
pub mod Descriptions
pub mod Rules
pub mod Moved
