pub mod StepBounds
pub mod DecaySteps
pub mod MeanDecay
pub mod StepEndsLaw
pub mod Limits
pub mod RawWeightLaw
pub mod AnswerLaw
