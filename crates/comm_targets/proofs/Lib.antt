pub mod CounterCommit
pub mod Sends
pub mod Counted
