mod RegisterTypes
mod IndexSteps
mod InnerValues
pub mod JoinedRows
mod EarliestPlaces
mod TypedViews
pub mod TypeRows
mod Misfits
