pub mod Broadcasts
pub mod WaiterCounts
pub mod ObjectMaps
pub mod CheckedRequests
pub mod ThreadStatuses
pub mod ObjectTables
pub mod Waits
