pub mod Rounding
pub mod BothEnds
pub mod Limits
pub mod Sum
pub mod Permutation
pub mod First
