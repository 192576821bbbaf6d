-- The definitions, in the order in which they are to be read.
pub mod Lines
pub mod Files
pub mod Demo
pub mod Requests
pub mod Plain
pub mod FileCauses
pub mod PlanCauses
pub mod Causes
pub mod Run
pub mod Outputs
-- What the contracts of inner calls and the proofs speak of.
pub mod TwoFiles
