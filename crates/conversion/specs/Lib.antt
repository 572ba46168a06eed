pub mod RewrittenSheet
pub mod Conversion
pub mod Judged
pub mod ConvertedAnswer
