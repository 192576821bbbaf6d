-- The definitions, in the order in which they are to be read.
pub mod Rules
pub mod Rewriting
pub mod CountedPlans
pub mod KeptRows
pub mod Inputs
pub mod Stages
pub mod Sources
pub mod Programs
