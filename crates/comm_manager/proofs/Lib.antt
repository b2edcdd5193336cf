pub mod Crossing
pub mod Entries
pub mod Gathering
pub mod Growing
pub mod Here
pub mod Made
