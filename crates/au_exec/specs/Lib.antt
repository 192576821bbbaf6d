-- The definitions, in the order in which they are to be read.
pub mod HeldRows
pub mod KnownKinds
pub mod KindLaws
pub mod SourceRows
pub mod Ready
pub mod RunViews
pub mod Taken
pub mod Advances
pub mod Runs
