pub mod Errors
pub mod Layouts
pub mod Slicing
pub mod Calls
