pub mod BodyBlocks
pub mod BodyParts
pub mod Lines
