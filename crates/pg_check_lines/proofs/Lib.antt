pub mod CaseStarts
pub mod ListedParts
pub mod ResultKinds
pub mod UseRows
