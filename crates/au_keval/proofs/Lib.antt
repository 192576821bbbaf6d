pub mod Answered
pub mod Evaluated
pub mod HasKinds
pub mod ImageTables
pub mod Images
pub mod OneRow
pub mod Passes
pub mod Triples
