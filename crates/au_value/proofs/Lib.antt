pub mod Decimals
pub mod Numerals
pub mod OrderLaws
pub mod ValueEquality
pub mod RangeLaws
pub mod FirstSeen
