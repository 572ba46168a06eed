pub mod PoolSums
pub mod BlockSums
pub mod RowTotals
pub mod SummedPool
pub mod SummedBlock
pub mod OrderOfRows
