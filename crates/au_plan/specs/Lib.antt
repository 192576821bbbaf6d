-- The definitions, in the order in which they are to be read.
pub use Rattle.au_physical.specs.Physicals
pub use Rattle.au_physical.specs.PhysicalMeaning
pub use Rattle.au_physical.specs.PhysicalKinds
pub use Rattle.au_physical.specs.PhysicalNumbers
pub mod Implements
pub mod Narrowing
-- What the contracts of inner calls and the proofs speak of.
pub mod Crossings
pub mod Joins
pub mod Made
pub mod TableScans
