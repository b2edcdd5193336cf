pub mod Sides
pub mod Code
pub mod Order
