pub mod Gives
pub mod Method
