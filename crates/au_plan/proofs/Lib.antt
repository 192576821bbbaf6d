pub mod UpToOrder
pub mod Groups
pub mod Implementing
pub mod Crossed
pub mod Separations
pub mod Joining
pub mod Passes
pub mod Making
pub mod KeptKinds
pub mod NarrowedScans
mod Literal
