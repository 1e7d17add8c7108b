pub mod Told
pub mod Checks
pub mod Numbers
pub mod Alone
