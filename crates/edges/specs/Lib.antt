pub mod Left
pub mod Edges
pub mod Incident
