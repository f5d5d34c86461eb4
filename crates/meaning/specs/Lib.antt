-- Document 01 as definitions, in its order, and the requests of document 02 that stand.
pub mod Readings
pub mod Methods
pub mod Layers
pub mod Questions
pub mod Calls
pub mod Claim
pub mod Comparing
pub mod OldForm
pub mod Planes
pub mod Totals
