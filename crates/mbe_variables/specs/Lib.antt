pub mod RoundCounts
pub mod FaultViews
pub mod FragmentWriter
pub mod LookupErrors
