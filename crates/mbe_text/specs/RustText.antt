-- Trees as Rust text: the gaps between tokens, doc comments, and the whole text.
pub mod DocComments
pub mod Gaps
pub mod PrinterViews
pub mod Printer
