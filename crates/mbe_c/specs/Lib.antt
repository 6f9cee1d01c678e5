pub mod Copies
pub mod Batch
pub mod Handles
pub mod HandleOwnership
