pub mod Objects
pub mod Places
pub mod Stages
pub mod Sync
