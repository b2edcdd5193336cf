pub mod Behind
pub mod Numbers
pub mod Text
