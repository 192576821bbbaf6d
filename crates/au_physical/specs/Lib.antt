-- The definitions, in the order in which they are to be read.
pub mod Physicals
pub mod PhysicalMeaning
pub mod PhysicalKinds
pub mod PhysicalNumbers
pub mod Chains
