-- The contracts of the public calls, over values of the specification.
use Rattle.std.specs.Prelude.{◌≡◌, ◌≢◌, ◌⊎◌, ◌+◌, ◌^◌, ℕ, Bool, true, false, nat_lt, if◌then◌else◌}
use Rattle.std.specs.Prelude.{List, [], ◌∷◌, Contains, Option, Some, None, IsNone, IsSome, IsTrue}
use Rattle.std.specs.List.{list_any}
use Rattle.mbe_tt.specs.declared.span.Span.{Span}
use Rattle.mbe_tt.specs.declared.tt.DelimiterKind.TheVariants.{Invisible}
use Rattle.mbe_tt.specs.Trees.Tree.{Forest, none, group}
use Rattle.mbe_tt.specs.Grammars.Grammar.{Grammar}
use Rattle.mbe_semantics.specs.declared.macro_call_style.MacroCallStyle.{MacroCallStyle}
use Rattle.mbe_semantics.specs.declared.macro_call_style.MacroCallStyle.TheVariants.{FnLike, Attr}
use Rattle.mbe_semantics.specs.declared.macro_call_style.MacroCallStyle.TheVariants.{Derive}
use Rattle.mbe_semantics.specs.Syntax.Template.{Fault, empty_repetition}
use Rattle.mbe_semantics.specs.Syntax.Definition.{Rule}
use Rattle.mbe_semantics.specs.Syntax.Nullable.{is_refused}
use Rattle.mbe_semantics.specs.Expansion.Error.{ExpandError, no_matching_rule}
use Rattle.mbe_semantics.specs.Expansion.Expansion.{Applies, IsExpansion, FirstThatEnds, NoneEnds}
use Rattle.mbe_semantics.specs.Expansion.Recovery.{HasStyle, IsClosest}

-- a parsed definition: its rules, and its error
pub record Macro : Type 0 where
  pub rules : List Rule
  pub err : Option Fault

-- a refused pattern is reported as an error
abbrev pub ReportsRefusal : Macro → Type 0
ReportsRefusal m = IsTrue (list_any (λ r. is_refused r.reads) m.rules) → m.err
    ≡ Some empty_repetition

-- No pattern is refused, or there is no rule. This is what `expand` requires.
abbrev pub IsChecked : Macro → Type 0
IsChecked m = (m.err ≢ Some empty_repetition) ⊎ (m.rules ≡ [])

-- ---- styles

-- the rule is for a function-like call
abbrev pub is_fn_like : Rule → Bool
is_fn_like r = is_this r.style
  where
    is_this : MacroCallStyle → Bool
    is_this FnLike = true
    is_this _ = false

-- the rule is for an attribute
abbrev pub is_attr : Rule → Bool
is_attr r = is_this r.style
  where
    is_this : MacroCallStyle → Bool
    is_this Attr = true
    is_this _ = false

-- the rule is for a derive
abbrev pub is_derive : Rule → Bool
is_derive r = is_this r.style
  where
    is_this : MacroCallStyle → Bool
    is_this Derive = true
    is_this _ = false

-- The styles of the rules as bits. Without rules they are those of a function-like call.
abbrev pub style_bits : List Rule → ℕ
style_bits [] = 1
style_bits (r ∷ rs) =
    (if list_any is_fn_like (r ∷ rs) then 1 else 0) + (if list_any is_attr (r ∷ rs) then 2 else 0)
    + (if list_any is_derive (r ∷ rs) then 4 else 0)

-- ---- expansion

-- the index of a rule, if it fits 32 bits
abbrev pub arm_of : ℕ → Option ℕ
arm_of n = if nat_lt n (2 ^ 32) then Some n else None

-- an empty invisible group
abbrev pub empty_tree : Span → Forest
empty_tree span = group (record { opening = span; close = span; kind = Invisible }) none none

-- A result without an error is the expansion by the first rule that applies. If some rule applies
-- there is no error. With an error the result names the closest rule. Without a rule of the style
-- it names none. In rustc's dialect a rule may end the call: then there is an error, and the result
-- names that rule.
pub record Expands (g : Grammar) (Marks : Span → Span
    → Type 0) (rules : List Rule) (style : MacroCallStyle)
    (argument : Forest) (call_site : Span) (out : Forest) (index : Option ℕ)
    (err : Option ExpandError) : Type 0 where
  pub sound : IsNone err → (n : ℕ) × IsExpansion g style argument Marks call_site rules n out
      × (index ≡ arm_of n)
  pub complete : NoneEnds g style argument rules → (r : Rule) → Contains rules r
      → Applies g style argument r → IsNone err
  pub recovers : NoneEnds g style argument rules → (e : ExpandError) → err ≡ Some e
      → HasStyle rules style → (n : ℕ) × IsClosest g style argument rules n × (index ≡ arm_of n)
  pub ended : (n : ℕ) (r : Rule) → FirstThatEnds g style argument rules n r
      → IsSome err × (index ≡ arm_of n)
  pub no_rule : (HasStyle rules style → ⊥) → (out ≡ empty_tree call_site) × (index ≡ None)
      × (err ≡ Some (record { span = call_site; kind = no_matching_rule }))
