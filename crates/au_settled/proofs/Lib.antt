mod RowOrder
mod Ranges
mod Spans
mod Pass
mod Heads
mod OwnForm
mod Gathered
mod Normal
