pub mod AskedValues
pub mod InstructionAsks
pub mod AskedPaths
pub mod StepAsks
pub mod KnownAlongRun
pub mod FewerDecisions
pub mod KnownIsTrue
pub mod ReferenceRunsRecorded
