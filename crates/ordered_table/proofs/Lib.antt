pub mod Gaps
pub mod Last
pub mod Walking
