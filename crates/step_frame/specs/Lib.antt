pub mod Under
pub mod Works
pub mod Agendas
pub mod Outcomes
pub mod Threads
