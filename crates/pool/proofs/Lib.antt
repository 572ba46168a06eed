pub mod TotalsLaws
pub mod PoolLaws
pub mod BlockLaws
pub mod SameSums
pub mod SummedPoolLaw
