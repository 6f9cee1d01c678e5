pub mod MessageFormats
pub mod Statuses
