-- When a partial reading can step, what a local ambiguity is, and when a pattern fits an argument.
use Rattle.std.specs.Prelude.{◌≡◌, ◌⊎◌, ℕ, Bool, true, Some}
use Rattle.mbe_tt.specs.Trees.Tree.{Forest, flat_len}
use Rattle.mbe_tt.specs.Grammars.Grammar.{Grammar}
use Rattle.mbe_semantics.specs.Syntax.Op.{Ops}
use Rattle.mbe_semantics.specs.Readings.Item.{Items}
use Rattle.mbe_semantics.specs.Readings.Input.{Input, input_of}
use Rattle.mbe_semantics.specs.Readings.Reading.{PartialReading, EndsAt, Reading}
use Rattle.mbe_semantics.specs.Readings.Steps.{move, next}

-- At offset q the partial reading x can step over n flat tokens. `f` says whether they are a
-- fragment.
abbrev pub StepsOver : Input → ℕ → ℕ → Bool → PartialReading → Type 0
StepsOver i q n f x = (y : PartialReading) × (next i q x ≡ Some (move n f y))

-- Two steps are ambiguous: one of them is over a fragment, or they are over different numbers of
-- flat tokens.
abbrev pub Conflict : ℕ → Bool → ℕ → Bool → Type 0
Conflict n f m g = (f ≡ true) ⊎ (g ≡ true) ⊎ (n ≡ m → ⊥)

-- Two different partial readings end at offset q, and their steps are ambiguous.
pub record Ambiguous (i : Input) (pat : Ops) (q : ℕ) : Type 0 where
  pub one : PartialReading
  pub other : PartialReading
  pub one_at : EndsAt i pat q one
  pub other_at : EndsAt i pat q other
  pub differ : one ≡ other → ⊥
  pub n : ℕ
  pub m : ℕ
  pub f : Bool
  pub g : Bool
  pub one_steps : StepsOver i q n f one
  pub other_steps : StepsOver i q m g other
  pub ambiguity : Conflict n f m g

-- no offset has a local ambiguity
abbrev pub NoAmbiguity : Input → Ops → Type 0
NoAmbiguity i pat = (p : ℕ) → Ambiguous i pat p → ⊥

-- these items are the only reading
abbrev pub OnlyReading : Input → Ops → ℕ → Items → Type 0
OnlyReading i pat len is = Reading i pat len is × ((js : Items) → Reading i pat len js → js ≡ is)

-- ---- for a grammar, a pattern and an argument

-- the items are a reading of the whole argument
abbrev pub IsReading : Grammar → Ops → Forest → Items → Type 0
IsReading g pattern argument is = Reading (input_of g argument) pattern (flat_len argument) is

-- the offset has a local ambiguity
abbrev pub IsAmbiguousAt : Grammar → Ops → Forest → ℕ → Type 0
IsAmbiguousAt g pattern argument q = Ambiguous (input_of g argument) pattern q

-- There is exactly one reading, and no offset has a local ambiguity.
abbrev pub Fits : Grammar → Ops → Forest → Items → Type 0
Fits g pattern argument is = NoAmbiguity (input_of g argument) pattern
    × OnlyReading (input_of g argument) pattern (flat_len argument) is
