-- Which rule of a definition expands an argument. A rule whose substitution faults is skipped, as
-- in rust-analyzer. In rustc's dialect the call ends at such a rule, and at a rule that rustc
-- commits to.
use Rattle.std.specs.Prelude.{◌≡◌, ℕ, suc, List, [], ◌∷◌, IsFalse}
use Rattle.mbe_tt.specs.declared.span.Span.{Span}
use Rattle.mbe_semantics.specs.declared.macro_call_style.MacroCallStyle.{MacroCallStyle}
use Rattle.mbe_tt.specs.Trees.Tree.{Forest}
use Rattle.mbe_semantics.specs.Syntax.Definition.{Rule}
use Rattle.mbe_tt.specs.Grammars.Grammar.{Grammar}
use Rattle.mbe_semantics.specs.Readings.Item.{Items}
use Rattle.mbe_semantics.specs.Readings.Ambiguity.{Fits}
use Rattle.mbe_semantics.specs.Bindings.Environment.{environment_of}
use Rattle.mbe_semantics.specs.Transcription.Substitution.{faults, IsSubstitution}
use Rattle.mbe_semantics.specs.Expansion.Commitment.{Commits}

module _ (g : Grammar) (style : MacroCallStyle) (argument : Forest) where
  -- The rule has the call's style, has exactly one reading of the whole argument and no local
  -- ambiguity, and its substitution has no fault.
  pub record Applies (r : Rule) : Type 0 where
    pub styled : r.style ≡ style
    pub items : Items
    pub fits : Fits g r.reads argument items
    pub faultless : IsFalse (faults (environment_of items) [] r.writes)

  -- no rule after this one is tried
  abbrev pub IsFinal : Rule → Type 0
  IsFinal r = (r.style ≡ style) × Commits g r.reads argument

  -- the first rule that applies, and its index
  pub data FirstThatApplies : List Rule → ℕ → (r : Rule) → Applies r → Type 0 where
    this_one : (r : Rule) (rs : List Rule) (a : Applies r) → FirstThatApplies (r ∷ rs) 0 r a
    a_later_one : (r s : Rule) (rs : List Rule) (n m : ℕ) (a : Applies s) →
        (Applies r → ⊥) → (IsFinal r → ⊥) → FirstThatApplies rs n s a → m ≡ suc n
        → FirstThatApplies (r ∷ rs) m s a

  -- the first rule that is final, and its index, if no rule up to it applies
  pub data FirstThatEnds : List Rule → ℕ → Rule → Type 0 where
    this_ends : (r : Rule) (rs : List Rule) → (Applies r → ⊥) → IsFinal r
        → FirstThatEnds (r ∷ rs) 0 r
    a_later_ends : (r s : Rule) (rs : List Rule) (n m : ℕ) → (Applies r → ⊥) → (IsFinal r → ⊥)
        → FirstThatEnds rs n s → m ≡ suc n → FirstThatEnds (r ∷ rs) m s

  -- no rule that doesn't apply ends the call
  abbrev pub NoneEnds : List Rule → Type 0
  NoneEnds rs = (n : ℕ) (r : Rule) → FirstThatEnds rs n r → ⊥

  -- the tree of an expansion without an error, and the index of its rule
  abbrev pub IsExpansion : (Span → Span → Type 0) → Span → List Rule → ℕ → Forest → Type 0
  IsExpansion Marks call_site rs n out =
      (r : Rule) × (a : Applies r) × FirstThatApplies rs n r a
      × IsSubstitution g Marks call_site (environment_of a.items) r.writes out
