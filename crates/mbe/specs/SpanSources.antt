-- Where the tokens of an expansion come from.
use Rattle.std.specs.Prelude.{◌≡◌, ◌⊎◌, ◌<◌, ℕ, Option, Some, None, IsFalse}
use Rattle.mbe_tt.specs.declared.span.Span.{Span}
use Rattle.mbe_tt.specs.Trees.Tree.{Forest, append, rest_at, alone, strip_invisible, spans_of}
use Rattle.mbe_tt.specs.Grammars.Grammar.{Grammar}
use Rattle.mbe_semantics.specs.declared.fragment_kinds.MetaVarKind.{MetaVarKind}
use Rattle.mbe_semantics.specs.declared.fragment_kinds.RepeatKind.TheVariants.{ZeroOrMore}
use Rattle.mbe_semantics.specs.declared.macro_call_style.MacroCallStyle.{MacroCallStyle}
use Rattle.mbe_semantics.specs.Syntax.Op as ops
use Rattle.mbe_semantics.specs.Syntax.Op.{Name, Separator, Ops}
use Rattle.mbe_semantics.specs.Syntax.Definition.{Rule}
use Rattle.mbe_semantics.specs.Fragments.Kinds.{stripped}
use Rattle.mbe_semantics.specs.Readings.Item.{Items, Fragment}
use Rattle.mbe_semantics.specs.Bindings.Environment.{fragment, Environment, environment_of}
use Rattle.mbe_semantics.specs.Transcription.Rounds.{Path, rounds_of, finite, followed, level}
use Rattle.mbe_semantics.specs.Transcription.Substitution.{faults, separator_trees, AreRounds}
use Rattle.mbe_semantics.specs.Transcription.Substitution.{Writes, Substitutes, IsSubstitution}
use Rattle.mbe_semantics.specs.Expansion.Expansion.{Applies, FirstThatApplies}
use Rattle.mbe_semantics.specs.Expansion.Macro.{Macro, Expands, arm_of}
use Rattle.mbe_semantics.specs.Laws.Laws.{IsSpanIn, IsGroupSpan, marked_spans, kept_spans}

-- These trees are a fragment of the argument, or the content of its one invisible group, with the
-- spans that they have there. Only the spacing of a last punct is changed.
pub record IsOfArgument (argument : Forest) (x : Fragment) (part : Forest) : Type 0 where
  pub offset : ℕ
  pub rest : Forest
  pub found : rest_at argument offset ≡ append x.trees rest
  pub written : part ≡ alone (strip_invisible x.trees)
  pub spans : spans_of part ≡ spans_of (strip_invisible x.trees)

module _ (g : Grammar) (Marks : Span → Span → Type 0) (argument : Forest) (call_site : Span) where
  -- the marker's result for a span of the template, the call site, the span of a separator or of an
  -- unbound name, a span of the argument, or the span of a fragment's group
  abbrev pub HasSource : Environment → Ops → Span → Type 0
  HasSource env template span = ((s : Span) × IsSpanIn s (marked_spans template) × Marks s span)
      ⊎ ((span ≡ call_site)
      ⊎ (IsSpanIn span (kept_spans env template)
      ⊎ (IsSpanIn span (spans_of argument) ⊎ IsGroupSpan g (marked_spans template) span)))

  -- The expansion of a rule under a reading. In rust-analyzer's dialect, a variable of kind `tt`,
  -- `ident`, `literal` or `lifetime` emits trees of the argument. Each span has a source. A star with fewer than 65536
  -- rounds, none of which has a fault, emits them all.
  pub record Traced (r : Rule) (is : Items) (out : Forest) : Type 0 where
    pub written : IsSubstitution g Marks call_site (environment_of is) r.writes out
    pub variables : (path : Path) (name : Name) (kind : Option MetaVarKind) (span : Span)
        (x : Fragment) (part : Forest)
        →
        followed (environment_of is) path name ≡ Some (fragment x) → x.style ≡ stripped →
        Writes g Marks call_site (environment_of is) path (ops.variable name kind span) part
        → IsOfArgument argument x part
    pub spans : (span : Span) → IsSpanIn span (spans_of out)
        → HasSource (environment_of is) r.writes span
    pub stars : (path : Path) (body : Ops) (separator : Option Separator) (n : ℕ) (part : Forest) →
        rounds_of (environment_of is) path body ≡ finite n → n < 65536 →
        ((i : ℕ) → i < n → IsFalse (faults (environment_of is) (level i n path) body)) →
        Writes g Marks call_site (environment_of is) path (ops.repetition body separator ZeroOrMore)
        part →
        AreRounds (separator_trees separator)
        (λ i. Substitutes g Marks call_site (environment_of is) (level i n path) body) n part

-- Each answer of `expand` without an error is such an expansion, by the first rule that applies.
abbrev pub AnswersAreTraced : (Span → Span → Type 0) → Type 0
AnswersAreTraced Marks =
    (g : Grammar) (m : Macro) (style : MacroCallStyle) (argument : Forest) (call_site : Span)
    (out : Forest) (index : Option ℕ)
    → Expands g Marks m.rules style argument call_site out index None →
    (n : ℕ) × (r : Rule) × (a : Applies g style argument r)
    × FirstThatApplies g style argument m.rules n r a
    × (index ≡ arm_of n) × Traced g Marks argument call_site r a.items out
