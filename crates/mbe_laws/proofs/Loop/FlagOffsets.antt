-- The loop over places, as long as nothing was dropped: the stack, its last on top, is that of the run that holds all.
use Rattle.std.proofs.Common.{ℕ, ◌≡◌, List, map, reverse}
use Rattle.mbe_semantics.specs.Syntax.Op.{Ops}
use Rattle.mbe_semantics.specs.Readings.Input.{Input}
use Rattle.mbe_semantics.specs.Readings.Reading.{PartialReading, EndsAt}
use Rattle.mbe_semantics.specs.Matching.Lists.{In}
use Rattle.mbe_semantics.specs.Syntax.Nullable.{Checked}
use Rattle.mbe_semantics.specs.Laws.Lawful.{Lawful}
use Rattle.mbe_semantics.specs.Matching.ThreadModel.{ThreadModel, erase}
use Rattle.mbe_semantics.specs.Matching.Closure.{closure}
use Rattle.mbe_laws.proofs.Matching.Law.{held-sound}
use Rattle.mbe_laws.specs.Orders.Order.{ReachesUnbounded, reversed_order}
use Rattle.mbe_laws.proofs.Orders.Spare.{turning}
use Rattle.mbe_laws.proofs.Orders.DropLemmas.{whole-inv}

module _ (i : Input) (pat : Ops) (len : ℕ) (lawful : Lawful i len) (checked : Checked pat) where
  pub record WholeTo (q : ℕ) (thread_stack : List ThreadModel) : Type 0 where
    pub xs : List PartialReading
    pub comes : ReachesUnbounded reversed_order i pat q xs
    pub same : map erase xs ≡ reverse thread_stack

  module _ (q : ℕ) (thread_stack : List ThreadModel) (c : WholeTo q thread_stack) where
    at : (x : PartialReading) → In x (closure i q c.xs) → EndsAt i pat q x
    at x m = held-sound i pat len lawful checked q c.xs
        (whole-inv i pat len lawful checked reversed_order turning c.comes)
        x m
