mod Bindings
mod ExitValues
mod Offs
mod Takes
mod Starts
mod Overs
mod Makes
mod Widths
