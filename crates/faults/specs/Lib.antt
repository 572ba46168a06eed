pub mod Reasons
pub mod WordFaults
pub mod GoodWords
