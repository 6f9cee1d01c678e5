-- The state of a partial reading: where it is in its pattern, without what it has read.
use Rattle.std.specs.Prelude.{List, [], ◌∷◌}
use Rattle.mbe_semantics.specs.Readings.Item.{no_items, no_rounds}
use Rattle.mbe_semantics.specs.Readings.Reading.{Frame, inside, within, PartialReading, partial}

-- open groups and repetitions, without what was read
abbrev pub without_items : List Frame → List Frame
without_items [] = []
without_items (inside d b rest is ∷ up) = inside d b rest no_items ∷ without_items up
without_items (within b s k rest is rs ∷ up) =
    within b s k rest no_items no_rounds ∷ without_items up

-- the state of a partial reading: all of it except what was read
abbrev pub state_of : PartialReading → PartialReading
state_of (partial rest is up) = partial rest no_items (without_items up)
