mod EachLemmas
mod GivingLemmas
mod HandleSteps
