mod Capping
mod Shapes
mod TableTypes
pub mod Fronts
pub mod SameTypes
mod NameIndexes
pub mod Resolutions
pub mod StructView
pub mod Fuel
pub mod Voids
mod ItemNumbers
mod ItemSteps
mod ItemPasses
mod ItemNames
mod ItemPlaces
pub mod Alignments
