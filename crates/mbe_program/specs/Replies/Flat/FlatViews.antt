-- What flat trees hold, in any allocator.
use Rattle.mbe_program.specs.Replies.Flat.Encoder.{State}
use Rattle.mbe_program.specs.declared.replies.flat.encoder.FlatTrees.{FlatTrees}

abbrev pub state_of : {A : Type 0} → FlatTrees A → State
state_of t = record { tokens = t.tokens.items; text = t.text.items }
