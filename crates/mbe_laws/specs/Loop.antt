-- The bounded closure by the program's stack of threads.
pub mod StackClosure
