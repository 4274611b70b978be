pub mod Slices
pub mod Errors
pub mod Args
pub mod Infos
pub mod Rules
pub mod Resolving
pub mod Walks
