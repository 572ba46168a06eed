pub mod ReportText
pub mod PortfolioText
pub mod BegunText
pub mod CheckedDeals
