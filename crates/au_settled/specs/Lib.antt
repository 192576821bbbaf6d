-- The definitions, in the order in which they are to be read.
pub mod Settled
pub mod Worked
pub mod Coded
pub mod Laws
-- What the contracts of inner calls and the proofs speak of.
pub mod Places
pub mod Counted
