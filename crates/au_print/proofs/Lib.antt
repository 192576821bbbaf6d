mod BegunRecords
pub mod Csv
pub mod CertainRows
pub mod CountedRuns
mod EncodedPlaces
pub mod FixedPoint
pub mod KindCells
mod LentTexts
pub mod PlacedRows
mod PlainRows
pub mod PrintableDigits
pub mod GuessWorlds
mod RowTexts
mod SpanTexts
pub mod TableWidths
pub mod TripleSums
