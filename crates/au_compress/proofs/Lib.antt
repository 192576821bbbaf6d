pub mod AnyOrder
mod CompressedRows
pub mod Covered
mod Hulls
mod Sublists
pub mod GuessParts
pub mod PlainProduct
pub mod PossibleParts
mod ProductOrder
pub mod ProductKeeps
pub mod EveryTree
