pub mod Carrying
pub mod Crossing
