pub mod IrbaDeals
pub mod Parameter
pub mod ParameterMeans
pub mod SmallCoefficients
