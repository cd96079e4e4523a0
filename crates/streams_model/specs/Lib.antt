pub mod Flows
pub mod EcbFlows
pub mod CbcFlows
pub mod Countings
