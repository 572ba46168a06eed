pub mod PoolCharge
pub mod SumLimits
pub mod Figures
