mod NextTurns
mod DueEvents
mod OpenSteps
mod LockedSteps
mod LockedEnds
