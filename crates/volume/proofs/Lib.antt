pub mod Asked
pub mod Named
pub mod Lengths
pub mod Facts
pub mod Exact
pub mod Reading
pub mod Natural
pub mod HeaderFile
