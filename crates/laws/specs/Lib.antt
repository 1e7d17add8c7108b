pub mod Places
pub mod Digits
pub mod Writing
pub mod Rules
pub mod Signed
