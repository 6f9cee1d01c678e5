-- What is looked for in trees whose text would be read otherwise, and that just that is written in its place.
pub mod GroupLemmas
pub mod NameLemmas
pub mod OpenedLemmas
pub mod OperandLemmas
pub mod ReceiverLemmas
pub mod SearchLemmas
pub mod TypeLemmas
pub mod WordLemmas
pub mod WrittenLemmas
