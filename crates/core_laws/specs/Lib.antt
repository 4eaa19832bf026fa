pub mod Laws
pub mod FunctionNumbers
pub mod WiderExample
