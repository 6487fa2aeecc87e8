pub mod KeptEntries
pub mod LineNumbers
pub mod SessionSteps
pub mod WrittenSessions
pub mod TrialCounts
pub mod PieceBytes
pub mod TakenBytes
pub mod SessionEnds
