pub mod AddedParts
pub mod FunctionGroups
pub mod VoidGroups
