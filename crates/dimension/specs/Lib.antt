pub mod Owed
pub mod Rows
pub mod Errors
pub mod Reach
