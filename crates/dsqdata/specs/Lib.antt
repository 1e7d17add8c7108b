pub mod Header
pub mod Ends
pub mod Records
pub mod Check
pub mod Scans
pub mod Lookup
pub mod Rules
pub mod Turned
