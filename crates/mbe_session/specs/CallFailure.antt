-- Why no rule of a macro expands a call, and the error that says so.
use Rattle.std.specs.Prelude.{◌≡◌, ◌+◌, ◌++◌, ℕ, max, if◌then◌else◌, List, ◌∷◌, [], length, codes}
use Rattle.std.specs.Prelude.{Option, Some, None, is_some, IfSome, true, false}
use Rattle.mbe_tt.specs.declared.span.Span.{Span}
use Rattle.mbe_tt.specs.declared.tt.Delimiter.{Delimiter}
use Rattle.mbe_tt.specs.Trees.Tree.{Forest, first}
use Rattle.mbe_tt.specs.Grammars.Grammar.{Grammar}
use Rattle.mbe_semantics.specs.Syntax.Definition.{Rule}
use Rattle.mbe_semantics.specs.Readings.Verdict.{one_reading, many_readings, ambiguous, stuck}
use Rattle.mbe_rewriter.specs.MacroItems.{MacroCall}
use Rattle.mbe.specs.RuleExplanation.{Explains, CommitsThere}
use Rattle.mbe_diagnostics.specs.Mismatch.{mismatch_text, token_at}
use Rattle.mbe_diagnostics.specs.SpanAt.{span_at}
use Rattle.mbe_session.specs.CallExpansion.{Setting, State, called_macro}
use Rattle.mbe_session.specs.Explanation.{Note}
use Rattle.mbe_session.specs.Faults.{error_at}
use Rattle.mbe_session.specs.declared.call_failure.CallFailure.{CallFailure}
use Rattle.mbe_session.specs.declared.call_failure.CallFailure.TheVariants as failure
use Rattle.mbe_session.specs.declared.notes.Level.TheVariants as level

-- The rules from an index on, tried in order, fail so. The rules before it stop at the offset
-- `furthest` at most. The first rule that matches, or is ambiguous, ends the search, as in rustc.
-- So does one that rustc's dialect commits to.
pub data FailsFrom (g : Grammar) (rules : List Rule) (argument : Forest)
    : ℕ → ℕ → CallFailure → Type 0 where
  no_rule_is_left : (index furthest : ℕ) → index ≡ length rules
      → FailsFrom g rules argument index furthest (failure.Mismatch furthest)
  rule_stops : (index furthest offset : ℕ) (why : CallFailure)
      → Explains g rules argument index (stuck offset) → CommitsThere g rules argument index false
      → FailsFrom g rules argument (index + 1) (max furthest offset) why
      → FailsFrom g rules argument index furthest why
  rule_is_ambiguous : (index furthest offset : ℕ)
      → Explains g rules argument index (ambiguous offset)
      → FailsFrom g rules argument index furthest (failure.Ambiguity offset)
  rule_has_readings : (index furthest : ℕ) → Explains g rules argument index many_readings
      → FailsFrom g rules argument index furthest failure.ManyReadings
  rule_matches : (index furthest : ℕ) → Explains g rules argument index one_reading
      → FailsFrom g rules argument index furthest failure.TemplateFault
  fragment_fails : (index furthest offset : ℕ)
      → Explains g rules argument index (stuck offset) → CommitsThere g rules argument index true
      → FailsFrom g rules argument index furthest failure.FragmentFault

-- All rules, tried in order, fail so.
abbrev pub CallFails : Grammar → List Rule → Forest → CallFailure → Type 0
CallFails g rules argument why = FailsFrom g rules argument 0 0 why

-- The rules of the macro that a call names fail so, if the macro has no error.
abbrev pub MacroFails : Setting → MacroCall → State → Forest → CallFailure → Type 0
MacroFails e c s argument why =
    IfSome (called_macro s c) (λ m. m.err ≡ None → CallFails e.grammar m.rules argument why)

-- ---- the error

unfoldable pub ambiguity_text : List ℕ → List ℕ
ambiguity_text name = codes "local ambiguity when calling macro `"
    ++ (name ++ codes "`: multiple parsing options")

abbrev pub readings_text : List ℕ
readings_text = codes "ambiguity: multiple successful parses"

-- The span of the token at an offset, or of the closing of the call. A call without an argument is
-- marked at its name.
abbrev pub place_at : MacroCall → Delimiter × Forest → ℕ → Span
place_at c argument offset =
    if is_some (first argument.1) then span_at argument.0.close argument.1 offset
    else c.name.span

-- The error of a call, in rustc's words, at the token at fault. For the fault of a template or of a
-- fragment, the expander has the error.
abbrev pub failure_note : MacroCall → Delimiter × Forest → CallFailure → Option Note
failure_note c argument (failure.Mismatch offset) =
    Some (error_at (place_at c argument offset) (mismatch_text (token_at None argument.1 offset)))
failure_note c argument (failure.Ambiguity offset) =
    Some (error_at (place_at c argument offset) (ambiguity_text c.name.sym))
failure_note c argument failure.ManyReadings =
    Some (error_at (place_at c argument 0) readings_text)
failure_note c argument failure.TemplateFault = None
failure_note c argument failure.FragmentFault = None

-- One error is noted: this one, or the expander's.
abbrev pub NotesError : Option Note → List Note → List Note → Type 0
NotesError None before after = (n : Note) × (n.level ≡ level.Error) × (after ≡ before ++ n ∷ [])
NotesError (Some n) before after = after ≡ before ++ n ∷ []

-- The failure of a call is noted.
abbrev pub NotesFailure : Setting → MacroCall → State → Delimiter × Forest → List Note
    → List Note → Type 0
NotesFailure e c s argument before after =
    (why : CallFailure) × MacroFails e c s argument.1 why
    × NotesError (failure_note c argument why) before after
