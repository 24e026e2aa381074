pub mod Left
pub mod Computing
pub mod Edges
pub mod Incident
