pub mod Printed
pub mod Firsts
pub mod Views
