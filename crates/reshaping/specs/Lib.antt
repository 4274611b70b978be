pub mod Reshapes
pub mod Turns
