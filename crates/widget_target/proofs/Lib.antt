pub mod Plain
pub mod Sends
