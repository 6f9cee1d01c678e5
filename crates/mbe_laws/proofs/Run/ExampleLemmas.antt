-- The pattern with very many readings, computed.
use Rattle.std.specs.Prelude.{refl, ◌≡◌}
use Rattle.mbe_tt.specs.Grammars.Grammar.{Grammar}
use Rattle.mbe_semantics.specs.Examples.Sample.{open_grammar}
use Rattle.mbe_semantics.specs.Readings.Verdict.{many_readings}
use Rattle.mbe_laws.specs.Bounded.Run.{verdict_bounded, run_bounded}
use Rattle.mbe_laws.specs.Bounded.ClosureTwoEach.{walk}
use Rattle.mbe_laws.specs.Bounded.DeepExample.{DeepExample, deep, semicolons}

deep_many : (g : Grammar) → verdict_bounded (open_grammar g) deep (semicolons 15) ≡ many_readings
unfolding verdict_bounded run_bounded walk
deep_many g = refl

pub deep_example : DeepExample
deep_example = record { places = refl; many = deep_many }
