-- What a match that fails reports by: the first and the last partial reading of each state.
pub mod Ends
pub mod Backward
