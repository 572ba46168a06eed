pub mod ApproachLaws
pub mod WeightLaws
