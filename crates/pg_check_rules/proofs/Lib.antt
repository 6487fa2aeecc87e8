mod Examples
mod RefusalExamples
mod ItemExamples
pub mod ConstantNumbers
pub mod ConstantViews
pub mod Doubles
pub mod FieldLists
pub mod FirstRefusals
pub mod MappedLists
mod OtherLengths
pub mod Parts
pub mod Rows
pub mod SymbolPlaces
pub mod TypeLists
