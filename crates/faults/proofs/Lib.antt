pub mod FaultLaws
pub mod DateFaults
pub mod FaultNumbers
pub mod GoodWordsLaw
pub mod RowTestLaw
pub mod ReasonLaws
