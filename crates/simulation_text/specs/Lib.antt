pub mod SimulationText
pub mod Cases
