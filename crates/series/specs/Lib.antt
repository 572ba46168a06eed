pub mod Fraction
pub mod Series
pub mod Ends
pub mod Bounds
pub mod DecayTable
pub mod TableEntry
