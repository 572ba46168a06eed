pub mod RewrittenLaws
pub mod ConversionSteps
pub mod JudgedLaws
pub mod ConversionLaws
