pub mod RenumberedExprs
pub mod RenumberedStmts
pub mod RenumberedNames
pub mod Renumbered
pub mod Examples
pub mod Positions
pub mod FunctionNumbers
