pub mod Joined
pub mod Keys
pub mod Members
pub mod NodeLists
pub mod OneLine
