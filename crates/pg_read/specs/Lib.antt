pub mod ItemStates
pub mod BodyParts
pub mod FunctionParts
