-- The answer of a call if no rule applies: which rule is the closest, why it doesn't apply, and
-- what its template emits (as in rust-analyzer).
use Rattle.std.specs.Prelude.{◌≡◌, ◌≢◌, ◌⊎◌, ◌-◌, ◌^◌, ℕ, min, List, [], Option, Some}
use Rattle.mbe_tt.specs.declared.span.Span.{Span}
use Rattle.mbe_tt.specs.declared.span.DelimSpan.{DelimSpan}
use Rattle.mbe_tt.specs.declared.tt.Delimiter.{Delimiter}
use Rattle.mbe_tt.specs.Trees.Tree.{Forest}
use Rattle.mbe_tt.specs.Trees.Top.{Top}
use Rattle.mbe_tt.specs.Grammars.Grammar.{Grammar}
use Rattle.mbe_semantics.specs.declared.macro_call_style.MacroCallStyle.{MacroCallStyle}
use Rattle.mbe_semantics.specs.Syntax.Definition.{Rule}
use Rattle.mbe_semantics.specs.Readings.Item.{Items}
use Rattle.mbe_semantics.specs.Readings.Ambiguity.{Fits}
use Rattle.mbe_semantics.specs.Readings.Verdict.{Verdict, one_reading, IsVerdict, unmatched}
use Rattle.mbe_semantics.specs.Bindings.Account.{Commands, run}
use Rattle.mbe_semantics.specs.Bindings.Environment.{Environment, environment_of, binding_total}
use Rattle.mbe_semantics.specs.Expansion.Error.{ExpandError}
use Rattle.mbe_semantics.specs.Expansion.Expansion.{FirstThatEnds, NoneEnds}
use Rattle.mbe_semantics.specs.Expansion.Macro.{arm_of}
use Rattle.mbe_semantics.specs.Expansion.Recovery.{HasStyle, IsStyledAt, IsCloser}
use Rattle.mbe_matcher.specs.Failures.{Reports}
use Rattle.mbe_transcriber.specs.TemplateFaults.{first_fault}
use Rattle.mbe_transcriber.specs.PartialExpansion.{IsPartialExpansion}

-- the spans of a group's two delimiters
abbrev pub spans_of : Delimiter → DelimSpan
spans_of d = record { opening = d.opening; close = d.close }

module _ (g : Grammar) (call_site : Span) (input : Top) where
  -- The rule's match fails. The error and the bindings are those that the match reports.
  pub record IsMatchFailed (r : Rule) (err : ExpandError) (env : Environment) : Type 0 where
    pub verdict : Verdict
    pub judged : IsVerdict g r.reads input.1 verdict
    pub unfit : verdict ≢ one_reading
    pub commands : Commands
    pub reported : Reports g r.reads input.1 (spans_of input.0) verdict err commands
    pub bound : env ≡ run commands []

  -- The rule matches, but its template has a fault. The error is the first fault.
  pub record IsFaulty (r : Rule) (err : ExpandError) (env : Environment) : Type 0 where
    pub items : Items
    pub fits : Fits g r.reads input.1 items
    pub bound : env ≡ environment_of items
    pub fault : first_fault call_site env [] r.writes ≡ Some err

  -- why a rule of the style doesn't apply, and what is bound then
  abbrev pub FailsWith : Rule → ExpandError → Environment → Type 0
  FailsWith r err env = IsMatchFailed r err env ⊎ IsFaulty r err env

  -- how many trees the rule leaves unmatched, and how much is bound, up to 64 bits
  pub record ComesNear (r : Rule) (left bound : ℕ) : Type 0 where
    pub trees : (v : Verdict) × IsVerdict g r.reads input.1 v × (left ≡ unmatched input.1 v)
    pub bindings : (err : ExpandError) × (env : Environment) × FailsWith r err env
        × (bound ≡ min (binding_total env) (2 ^ 64 - 1))

  -- The rule with that index is the closest of the style: it leaves the fewest trees unmatched and,
  -- among these, binds the most. The earliest of equals.
  pub record IsNearest (style : MacroCallStyle) (rs : List Rule) (n : ℕ) (rule : Rule) : Type 0
    where
      pub left : ℕ → ℕ
      pub bound : ℕ → ℕ
      pub styled : IsStyledAt rs style n rule
      pub near : (m : ℕ) (r : Rule) → IsStyledAt rs style m r → ComesNear r (left m) (bound m)
      pub first : (m : ℕ) (r : Rule) → IsStyledAt rs style m r → IsCloser left bound n m

  -- the answer of a rule that doesn't apply: its error, and what its template emits under its
  -- bindings
  pub record IsRecovered (Marks : Span → Span → Type 0) (r : Rule) (out : Forest)
      (err : Option ExpandError) : Type 0 where
    pub error : ExpandError
    pub env : Environment
    pub reported : err ≡ Some error
    pub fails : FailsWith r error env
    pub left : IsPartialExpansion g Marks call_site env r.writes out

  -- The rule whose answer a call with an error has: in rustc's dialect, the rule that ends the
  -- call. If none does, it is the closest.
  abbrev pub IsAnswering : MacroCallStyle → List Rule → ℕ → Rule → Type 0
  IsAnswering style rs n rule = FirstThatEnds g style input.1 rs n rule
      ⊎ (NoneEnds g style input.1 rs × IsNearest style rs n rule)

  -- the answer of a call if some rule has the style and none applies
  pub record IsRecovery (Marks : Span → Span → Type 0) (rs : List Rule) (style : MacroCallStyle)
      (out : Forest) (index : Option ℕ) (err : Option ExpandError) : Type 0 where
    pub rule_index : ℕ
    pub rule : Rule
    pub answering : IsAnswering style rs rule_index rule
    pub named : index ≡ arm_of rule_index
    pub recovered : IsRecovered Marks rule out err

  -- An answer with an error is that of the rule that ends the call, or of the closest rule.
  abbrev pub Recovers : (Span → Span → Type 0) → List Rule → MacroCallStyle → Forest → Option ℕ
      → Option ExpandError
      → Type 0
  Recovers Marks rs style out index err =
      (e : ExpandError) → err ≡ Some e → HasStyle rs style → IsRecovery Marks rs style out index err
