pub mod KeptValues
pub mod SetRegisters
pub mod GatheredLists
pub mod ThreadCalls
pub mod DefinedSteps
pub mod DefinedEvents
pub mod ThreadsMade
pub mod MissingFunctions
