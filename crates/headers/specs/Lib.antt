pub mod Record
pub mod Statement
