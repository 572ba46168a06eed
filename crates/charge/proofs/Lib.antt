pub mod SumLimitsLaw
pub mod PoolLaws
pub mod ChargeLaws
pub mod FiguresLaws
