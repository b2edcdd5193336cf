pub mod JournalView
pub mod Log
pub mod UnderLock
pub mod Names
pub mod SeqView
pub mod SeqShares
pub mod Why
