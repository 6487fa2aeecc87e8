pub mod Cases
pub mod Results
pub mod Uses
