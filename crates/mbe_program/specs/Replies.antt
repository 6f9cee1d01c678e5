-- What the functions behind the C library answer.
pub mod RequestCodes
pub mod Answers
pub mod Requests
pub mod ReadMacros
pub mod KeptMacros
pub mod Flat
