pub mod WorkerSteps
