pub mod Turns
pub mod Answers
pub mod Bodies
pub mod Rules
pub mod Making
