pub mod Tokenize
pub mod Escapes
