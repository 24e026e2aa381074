pub mod PlacedElements
pub mod Damage
pub mod ThirdDemand
pub mod code
