-- The definitions, in the order in which they are to be read.
pub mod Codes
pub mod CodedPlans
pub mod CellMeaning
pub mod CellNumbers
pub mod Careful
pub mod Laws
pub mod CellNormal
pub mod Books
pub mod TextCodes
pub mod Decoding
pub mod Gathering
pub mod TextLaws
pub mod Worked
