-- Commands, environments, rounds and the log.
pub mod CommandLemmas
pub mod LogLemmas
pub mod RoundLemmas
