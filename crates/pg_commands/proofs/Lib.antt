mod Examples
mod FirstRefusals
pub mod ModuleBytes
pub mod GlobalBytes
pub mod GuidedTexts
pub mod LongTexts
pub mod TurnsCounted
pub mod ShelfFaults
pub mod TextVerdicts
pub mod CommandEnds
pub mod CrewCounts
pub mod OnceEnds
pub mod ShowEnds
pub mod ConditionsEnds
pub mod TrialEnds
pub mod WrittenEnds
pub mod DueStatuses
pub mod ServeEnds
pub mod BookEnds
pub mod SavingsEnd
pub mod FirstEntries
pub mod SessionsEnd
