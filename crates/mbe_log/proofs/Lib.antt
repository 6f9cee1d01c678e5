pub mod CallLemmas
pub mod ChainLemmas
pub mod ClientLemmas
pub mod CodeLemmas
pub mod LogLemmas
pub mod OrderLemmas
pub mod SeenLemmas
pub mod SoundLemmas
