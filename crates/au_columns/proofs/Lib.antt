mod Chains
mod Gathered
mod Held
mod Joined
mod LentColumns
mod Listed
mod Made
mod Paired
mod Parts
mod Places
pub mod Rows
mod Values
