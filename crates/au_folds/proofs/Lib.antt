pub mod CellKeys
mod KeyRows
mod KeySets
pub mod MergeLaws
mod PackedLaws
pub mod PutLaws
pub mod TableLaws
mod TableShapes
mod Terms
