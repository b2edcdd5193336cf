pub mod Standing
pub mod Clients
pub mod Opening
pub mod Crossing
