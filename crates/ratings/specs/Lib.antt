pub mod RatingTable
pub mod StoredFigures
