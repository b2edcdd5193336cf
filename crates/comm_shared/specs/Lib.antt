pub mod Between
pub mod SharedView
pub mod SharedViewCode
