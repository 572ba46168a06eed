pub mod Calendar
pub mod Maturity
