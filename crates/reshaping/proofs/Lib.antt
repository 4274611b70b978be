pub mod Guards
pub mod Walking
