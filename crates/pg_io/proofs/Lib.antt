pub mod CountedNames
pub mod Known
