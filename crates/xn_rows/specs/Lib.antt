pub mod Holding
pub mod RowLaws
