pub mod PickLaws
pub mod TableLaws
