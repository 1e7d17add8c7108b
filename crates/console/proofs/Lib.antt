pub mod Values
pub mod Calls
pub mod Told
pub mod Volume
pub mod Bodies
