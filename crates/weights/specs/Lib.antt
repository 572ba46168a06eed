pub mod Approaches
pub mod ApproachFloorCap
