pub mod RoundingLaws
pub mod SmallerLarger
pub mod Tests
pub mod Table
pub mod SumLaws
pub mod SumPermuted
pub mod FirstLaws
