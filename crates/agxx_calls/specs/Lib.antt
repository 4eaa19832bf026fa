pub mod Commands
pub mod Parse
