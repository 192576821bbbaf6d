pub mod Intervals
pub mod Typed
pub mod SumLaws
pub mod Parities
pub mod ParityLaws
pub mod Summed
