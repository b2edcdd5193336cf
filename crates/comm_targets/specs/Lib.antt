pub mod Event
pub mod Meaning
pub mod Widget
pub mod Answers
pub mod OpenComms
pub mod Code
pub mod Latest
