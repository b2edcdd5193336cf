pub mod Faults
pub mod Heard
pub mod Words
