pub mod Totals
pub mod LeastTotals
pub mod Over
pub mod Boxes
pub mod Denominators
pub mod Certificates
pub mod Duality
pub mod LinearForms
