pub mod Running
pub mod Theory
pub mod Check
pub mod Budget
pub mod Acting
pub mod Room
pub mod Spare
pub mod Trail
