pub mod Added
pub mod DifferenceKinds
pub mod DifferenceNumbers
pub mod DifferenceRows
pub mod FirstGroups
mod Floor
pub mod JoinedRows
pub mod Laws
mod Minus
mod Taken
