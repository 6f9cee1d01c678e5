-- The number of rounds of a repetition: the least number that its names allow. No number if no name
-- repeats at this level.
use Rattle.std.specs.Prelude.{List, [], ◌∷◌, Option, Some, None}
use Rattle.mbe_variables.specs.declared.variable_lookup.Extent as counted
use Rattle.mbe_variables.specs.declared.variable_lookup.SimpleBinding as single
use Rattle.mbe_semantics.specs.Bindings.Environment.{Value, fragment, missing}
use Rattle.mbe_semantics.specs.Transcription.Rounds.{Extent, finite, endless, lesser}
use Rattle.mbe_log.specs.FragmentViews.{fragment_seen}

abbrev pub extent_seen : counted.Extent → Extent
extent_seen (counted.TheVariants.Finite n) = finite n
extent_seen counted.TheVariants.Endless = endless

-- the value that a simple binding stands for
abbrev pub simple_value : {A : Type 0} → single.SimpleBinding A → Value
simple_value (single.TheVariants.Fragment x) = fragment (fragment_seen x.now)
simple_value (single.TheVariants.Missing kind) = missing kind

-- the smaller number; none counts as no limit
abbrev pub shorter : Option Extent → Option Extent → Option Extent
shorter None e = e
shorter (Some a) None = Some a
shorter (Some a) (Some b) = Some (lesser a b)

-- the least number
abbrev pub shortest : List Extent → Option Extent
shortest [] = None
shortest (e ∷ es) = shorter (Some e) (shortest es)
