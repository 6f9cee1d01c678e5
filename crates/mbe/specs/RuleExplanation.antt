-- What the calls that explain return about one rule of a definition.
use Rattle.std.specs.Prelude.{◌≡◌, ◌↔◌, ℕ, Bool, IsTrue, List, slice_get, Option, Some, None}
use Rattle.mbe_tt.specs.Trees.Tree.{Forest}
use Rattle.mbe_tt.specs.Grammars.Grammar.{Grammar}
use Rattle.mbe_semantics.specs.Syntax.Op.{Ops}
use Rattle.mbe_semantics.specs.Syntax.Definition.{Rule}
use Rattle.mbe_semantics.specs.Readings.Item.{Items}
use Rattle.mbe_semantics.specs.Readings.Ambiguity.{Fits}
use Rattle.mbe_semantics.specs.Readings.Verdict.{Verdict, IsVerdict}
use Rattle.mbe_semantics.specs.Bindings.Environment.{Environment, environment_of}
use Rattle.mbe_semantics.specs.Expansion.Commitment.{Commits}
use Rattle.mbe_matcher.specs.Expected.{Expected, AreExpected, HasAmbiguousPair}

-- the verdict of the rule with this index on the argument
abbrev pub Explains : Grammar → List Rule → Forest → ℕ → Verdict → Type 0
Explains g rules argument index v =
    (r : Rule) × (slice_get rules index ≡ Some r) × IsVerdict g r.reads argument v

-- whether no later rule is tried after the rule with this index, even if it doesn't apply
abbrev pub CommitsThere : Grammar → List Rule → Forest → ℕ → Bool → Type 0
CommitsThere g rules argument index ends = (r : Rule) × (slice_get rules index ≡ Some r)
    × (IsTrue ends ↔ Commits g r.reads argument)

-- what the rule with this index expects where its match stops with that verdict
abbrev pub ExpectedThere : Grammar → List Rule → Forest → ℕ → Verdict → List Expected → Type 0
ExpectedThere g rules argument index v ws =
    (r : Rule) × (slice_get rules index ≡ Some r) × AreExpected g r.reads argument v ws

-- two of these that are a local ambiguity, if the verdict is one
abbrev pub AmbiguousThere : Grammar → List Rule → Forest → ℕ → Verdict
    → Option (Expected × Expected) → Type 0
AmbiguousThere g rules argument index v pair =
    (r : Rule) × (slice_get rules index ≡ Some r) × HasAmbiguousPair g r.reads argument v pair

-- what a rule binds: the environment of its only reading if it matches, else none
abbrev pub RuleBinds : Grammar → Rule → Forest → Option Environment → Type 0
RuleBinds g r argument None = (is : Items) → Fits g r.reads argument is → ⊥
RuleBinds g r argument (Some env) =
    (is : Items) × Fits g r.reads argument is × (env ≡ environment_of is)

-- what the rule with this index binds
abbrev pub BindsThere : Grammar → List Rule → Forest → ℕ → Option Environment → Type 0
BindsThere g rules argument index bound =
    (r : Rule) × (slice_get rules index ≡ Some r) × RuleBinds g r argument bound

-- the pattern of the rule with this index
abbrev pub HasPattern : List Rule → ℕ → Ops → Type 0
HasPattern rules index pattern = (r : Rule) × (slice_get rules index ≡ Some r) × (r.reads ≡ pattern)

-- the template of the rule with this index
abbrev pub HasTemplate : List Rule → ℕ → Ops → Type 0
HasTemplate rules index template =
    (r : Rule) × (slice_get rules index ≡ Some r) × (r.writes ≡ template)
