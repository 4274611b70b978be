pub mod Cursors
pub mod Numerals
