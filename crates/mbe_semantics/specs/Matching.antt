-- How the matcher works, for its proof: runs, threads, and the closure at each offset.
pub mod Lists
pub mod Trace
pub mod ThreadModel
pub mod States
pub mod Closure
pub mod Run
pub mod Frontier
