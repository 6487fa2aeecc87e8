pub mod Steps
pub mod Intervals
pub mod Cuts
pub mod Effects
pub mod Plans
pub mod Machines
pub mod Chains
pub mod Standing
