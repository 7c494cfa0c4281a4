pub mod Decided
pub mod Excluded
pub mod FirstFlaws
pub mod Totals
