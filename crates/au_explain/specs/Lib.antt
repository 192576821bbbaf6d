-- The definitions, to be read from top to bottom.
pub mod Lines
