pub mod Numbers
pub mod Order
pub mod Packets
pub mod Room
pub mod Cases
