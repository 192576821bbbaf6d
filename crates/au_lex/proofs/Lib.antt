pub mod Beyond
pub mod Fronts
pub mod Longest
pub mod Numbers
pub mod Quotes
pub mod Scales
pub mod Spans
pub mod Symbols
pub mod TokenSteps
pub mod Utf8
mod Rows
