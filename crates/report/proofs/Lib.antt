pub mod TextLaws
pub mod LineSteps
pub mod ReportLaws
pub mod CheckedDealsLaw
pub mod PortfolioLaws
