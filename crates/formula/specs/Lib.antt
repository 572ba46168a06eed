pub mod Formula
pub mod FixedPoint
pub mod StepEnds
