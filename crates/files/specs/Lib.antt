pub mod FileForm
pub mod Decimal
