pub mod SignedLaws
pub mod ParameterLimits
pub mod ParameterMeansLaw
pub mod CheckedParameters
