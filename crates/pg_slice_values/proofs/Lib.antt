pub mod GrowingNodes
pub mod Widths
pub mod Operands
pub mod OneNodeOperations
pub mod PointerMoves
pub mod Indices
pub mod Registers
