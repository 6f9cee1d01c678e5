-- The closest rule: the rule that is used where no rule applies.
use Rattle.std.specs.Prelude.{◌≡◌, ◌<◌, ◌≤◌, ◌⊎◌, ◌-◌, ◌^◌, ℕ, min, List, slice_get, Some, Contains}
use Rattle.mbe_tt.specs.Trees.Tree.{Forest}
use Rattle.mbe_tt.specs.Grammars.Grammar.{Grammar}
use Rattle.mbe_semantics.specs.declared.macro_call_style.MacroCallStyle.{MacroCallStyle}
use Rattle.mbe_semantics.specs.Syntax.Definition.{Rule}
use Rattle.mbe_semantics.specs.Readings.Item.{Items}
use Rattle.mbe_semantics.specs.Readings.Ambiguity.{Fits}
use Rattle.mbe_semantics.specs.Readings.Verdict.{Verdict, IsVerdict, unmatched}
use Rattle.mbe_semantics.specs.Bindings.Environment.{environment_of, binding_total}

-- some rule is for this style of call
abbrev pub HasStyle : List Rule → MacroCallStyle → Type 0
HasStyle rs style = (r : Rule) × Contains rs r × (r.style ≡ style)

-- the rule with this index has the style
abbrev pub IsStyledAt : List Rule → MacroCallStyle → ℕ → Rule → Type 0
IsStyledAt rs style n r = (slice_get rs n ≡ Some r) × (r.style ≡ style)

-- Rule n is closer than rule m: it has fewer unmatched trees. Or it has as many, and more is bound.
-- Or both are equal, and it comes first.
abbrev pub IsCloser : (ℕ → ℕ) → (ℕ → ℕ) → ℕ → ℕ → Type 0
IsCloser left bound n m =
    (left n < left m) ⊎ ((left n ≡ left m)
    × ((bound m < bound n) ⊎ ((bound m ≡ bound n) × (n ≤ m))))

-- The closest rule of the style: it has the fewest unmatched trees. Ties go to the greatest number
-- of bindings, then to the earliest rule. For a rule that doesn't fit, the number of bindings may
-- be any number (rust-analyzer's behaviour).
pub record IsClosest (g : Grammar) (style : MacroCallStyle) (argument : Forest) (rs : List Rule)
    (n : ℕ) : Type 0 where
  pub left : ℕ → ℕ
  pub bound : ℕ → ℕ
  pub rule : Rule
  pub styled : IsStyledAt rs style n rule
  pub unmatched_trees : (m : ℕ) (r : Rule) → IsStyledAt rs style m r
      → (v : Verdict) × IsVerdict g r.reads argument v × (left m ≡ unmatched argument v)
  pub bindings : (m : ℕ) (r : Rule) (is : Items) → IsStyledAt rs style m r
      → Fits g r.reads argument is →
      bound m ≡ min (binding_total (environment_of is)) (2 ^ 64 - 1)
  pub first : (m : ℕ) (r : Rule) → IsStyledAt rs style m r → IsCloser left bound n m
