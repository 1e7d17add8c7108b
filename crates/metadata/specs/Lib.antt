pub mod Record
pub mod Rules
pub mod Bodies
