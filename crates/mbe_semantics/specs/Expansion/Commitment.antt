-- Where rustc ends a call: at a rule that it commits to. It tries a later rule only if no thread
-- can go on with the next token. It doesn't after a local ambiguity, after several readings, or
-- where a fragment begins and has a fault inside.
use Rattle.std.specs.Prelude.{◌≡◌, ℕ, true}
use Rattle.mbe_tt.specs.Trees.Tree.{Forest, rest_at}
use Rattle.mbe_tt.specs.Grammars.Grammar.{Grammar}
use Rattle.mbe_semantics.specs.Syntax.Op.{Op, Ops, token, group, variable, repetition, expression}
use Rattle.mbe_semantics.specs.Syntax.Op.{no_ops, op}
use Rattle.mbe_semantics.specs.Fragments.FragmentFront.{fails_inside, is_rustc}
use Rattle.mbe_semantics.specs.Readings.Input.{input_of}
use Rattle.mbe_semantics.specs.Readings.Reading.{PartialReading, partial, EndsAt}
use Rattle.mbe_semantics.specs.Readings.Verdict.{Verdict, one_reading, many_readings, ambiguous}
use Rattle.mbe_semantics.specs.Readings.Verdict.{stuck, IsVerdict}

module _ (g : Grammar) where
  -- the op is a variable whose fragment begins with the first tree and has a fault inside
  abbrev pub FailsInside : Op → Forest → Type 0
  FailsInside (variable name kind span) f = fails_inside g kind f ≡ true
  FailsInside (token t) f = ⊥
  FailsInside (group d body) f = ⊥
  FailsInside (repetition body separator repeat) f = ⊥
  FailsInside (expression e) f = ⊥

  -- the next op of the partial reading is such a variable
  abbrev pub IsBeforeFault : PartialReading → Forest → Type 0
  IsBeforeFault (partial no_ops is up) f = ⊥
  IsBeforeFault (partial (op o rest) is up) f = FailsInside o f

  -- a match with that verdict ends the call, unless the rule applies
  abbrev pub EndsBy : Ops → Forest → Verdict → Type 0
  EndsBy pattern argument one_reading = Unit {0}
  EndsBy pattern argument many_readings = Unit {0}
  EndsBy pattern argument (ambiguous q) = Unit {0}
  EndsBy pattern argument (stuck q) =
      (x : PartialReading) × EndsAt (input_of g argument) pattern q x
      × IsBeforeFault x (rest_at argument q)

  -- in rustc's dialect, no other pattern is tried after this one
  pub record Commits (pattern : Ops) (argument : Forest) : Type 0 where
    pub rustc : is_rustc g.dialect ≡ true
    pub verdict : Verdict
    pub judged : IsVerdict g pattern argument verdict
    pub ends : EndsBy pattern argument verdict
