pub mod Wholes
pub mod LookUp
pub mod MemberOrder
pub mod LineNumbers
pub mod SameTexts
