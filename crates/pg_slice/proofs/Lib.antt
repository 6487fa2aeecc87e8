pub mod FixedByRules
pub mod MoreDecisions
pub mod TimedSteps
pub mod RegionBounds
