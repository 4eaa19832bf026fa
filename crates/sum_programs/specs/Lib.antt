pub mod SumPrograms
pub mod Laws
pub mod Example
