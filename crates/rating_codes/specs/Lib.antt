pub mod RatingCodes
