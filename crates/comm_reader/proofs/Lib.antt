pub mod Walking
pub mod Slots
pub mod MessageTests
