pub mod FaultSteps
