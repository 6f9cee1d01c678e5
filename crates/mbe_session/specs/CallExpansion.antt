-- The expansion of one call, or why it is not expanded.
use Rattle.std.specs.Prelude.{◌≡◌, ◌≢◌, ◌⊎◌, ◌<◌, ◌-◌, ◌+◌, ℕ, zero, Bool, true, false, List, []}
use Rattle.std.specs.Prelude.{◌++◌, length, Option, Some, None, unwrap_or}
use Rattle.mbe_tt.specs.declared.grammar.Dialect.{Dialect}
use Rattle.mbe_tt.specs.declared.grammar.Dialect.TheVariants.{RustAnalyzer, Rustc}
use Rattle.mbe_tt.specs.declared.span.Span.{Span}
use Rattle.mbe_tt.specs.Grammars.Grammar.{Grammar}
use Rattle.mbe_tt.specs.Trees.Top.{Top, top_group}
use Rattle.mbe_tt.specs.Trees.Tree.{flat_len}
use Rattle.mbe_semantics.specs.Expansion.Macro.{Macro, Expands}
use Rattle.mbe_semantics.specs.Expansion.Error.{ExpandError}
use Rattle.mbe_semantics.specs.declared.macro_call_style.MacroCallStyle.TheVariants.{FnLike}
use Rattle.mbe_rewriter.specs.MacroItems.{MacroCall}
use Rattle.mbe_cfg.specs.declared.cfg_options.CfgOptions.{CfgOptions}
use Rattle.mbe_rewriter.specs.PunctSpacing.{spaced}
use Rattle.mbe_rewriter.specs.WholeFragments.Receivers.{parenthesize_receivers}
use Rattle.mbe_rewriter.specs.WholeFragments.FragmentGroups.{open_fragments}
use Rattle.mbe_rewriter.specs.Hygiene.Contexts.{step_span, numbered}
use Rattle.mbe_session.specs.Budgets.{with_call_spent, with_tokens_spent, is_spent}
use Rattle.mbe_session.specs.declared.settings.Budget.{Budget}
use Rattle.mbe_session.specs.Scopes.{Scope, Language}
use Rattle.mbe_session.specs.Resolution.{rules_found, contexts_found}

-- The settings, which no step changes. They are the grammar of fragments, the conditions of `cfg`s,
-- the dialect and the edition in which definitions are read, and the limit of nested expansions.
pub record Setting : Type 0 where
  pub grammar : Grammar
  pub conditions : CfgOptions
  pub language : Language
  pub depth : ℕ

-- What changes: the definitions; how many more calls may be expanded, and how many more tokens these
-- may write; and the contexts of tokens of expansions. For each context of these tokens, from 1 on,
-- it has the context of the macro's token. Tokens of files have context 0.
pub record State : Type 0 where
  pub scope : Scope
  pub fuel : Budget
  pub contexts : List ℕ

-- One call less may be expanded.
abbrev pub with_fuel_spent : State → State
with_fuel_spent s = record s { fuel = with_call_spent s.fuel }

-- The tokens of an expansion are written.
abbrev pub with_written : Top → State → State
with_written tree s = record s { fuel = with_tokens_spent (flat_len tree.1) s.fuel }

-- the macro that a call names
abbrev pub called_macro : State → MacroCall → Option Macro
called_macro s c = rules_found s.scope c

-- The contexts of that macro's tokens.
abbrev pub macro_contexts : State → MacroCall → List ℕ
macro_contexts s c = unwrap_or (contexts_found s.scope c) []

-- The context of the next expansion.
abbrev pub next_context : State → ℕ
next_context s = numbered (length s.contexts + 1)

-- Tokens of a macro keep their spans except for the contexts. Each context gets one of the
-- expansion's own.
abbrev pub Marks : State → MacroCall → Span → Span → Type 0
Marks s c span out = out ≡ step_span (next_context s) (macro_contexts s c) span

-- The contexts of the expansion of that call are recorded.
abbrev pub with_step_contexts : MacroCall → State → State
with_step_contexts c s = record s { contexts = s.contexts ++ macro_contexts s c }

-- A call was expanded to that tree: one call less may be expanded, and fewer tokens be written.
abbrev pub after_step : MacroCall → Top → State → State
after_step c tree s = with_written tree (with_step_contexts c (with_fuel_spent s))

-- An expansion as it is expanded further: receivers are settled, or, in rustc's dialect, the groups
-- of fragments are opened that no macro call's argument holds.
abbrev pub settled_in : Dialect → Top → Top
settled_in RustAnalyzer out = parenthesize_receivers out
settled_in Rustc out = open_fragments out

-- What the rules expand a call's argument to. The operators of the argument are those of its texts,
-- and the receivers of the expansion are settled.
abbrev pub Makes : Setting → State → MacroCall → Macro → Top → Option ExpandError → Type 0
Makes e s c m tree err = (index : Option ℕ) × (out : Top)
    × Expands e.grammar (Marks s c) m.rules FnLike (spaced c.argument) c.name.span (top_group out)
    index err
    × (tree ≡ settled_in e.grammar.dialect out)

-- Whether the limits allow one more call, that deep in others.
abbrev pub Allows : ℕ → State → State → Bool → Type 0
Allows depth s t true =
    (0 < depth) × (is_spent (with_call_spent s.fuel) ≡ false) × (t ≡ with_fuel_spent s)
Allows depth s t false =
    ((depth ≡ 0) × (t ≡ s))
    ⊎ ((is_spent (with_call_spent s.fuel) ≡ true) × (t ≡ with_fuel_spent s))

-- The macro that a call names has an error, or no rule of it applies.
pub data Refuses (e : Setting) (c : MacroCall) (s : State) : Type 0 where
  by_definition : (m : Macro) → called_macro s c ≡ Some m → m.err ≢ None → Refuses e c s
  by_rules : (m : Macro) (tree : Top) (err : ExpandError) → called_macro s c ≡ Some m
      → Makes e s c m tree (Some err)
      → Refuses e c s

-- Why a call is not expanded: groups and calls are nested too deep, no macro is found, a limit is
-- reached, or the macro refuses it.
pub data StaysUnexpanded (e : Setting) (c : MacroCall) (depth : ℕ) (s : State) : ℕ → State
    → Type 0 where
  too_many : StaysUnexpanded e c depth s zero s
  not_found : (levels : ℕ) → called_macro s c ≡ None → StaysUnexpanded e c depth s levels s
  limited : (levels : ℕ) (t : State) → Allows depth s t false → StaysUnexpanded e c depth s levels t
  refused : (levels : ℕ) → 0 < depth → is_spent (with_call_spent s.fuel) ≡ false → Refuses e c s
      → StaysUnexpanded e c depth s levels (with_fuel_spent s)

-- The macro that a call names is found and has no error, a rule expands the call to this tree, and
-- no limit is reached.
pub record IsReplaced (e : Setting) (c : MacroCall) (levels depth : ℕ) (s : State)
    (tree : Top) : Type 0 where
  pub rules : Macro
  pub found : called_macro s c ≡ Some rules
  pub faultless : rules.err ≡ None
  pub makes : Makes e s c rules tree None
  pub level_left : 0 < levels
  pub depth_left : 0 < depth
  pub fuel_left : is_spent (with_call_spent s.fuel) ≡ false

-- The result of the rules of the macro that a call names: their tree, or nothing where they refuse
-- the call.
abbrev pub Applies : Setting → MacroCall → State → State → Option Top → Type 0
Applies e c s t None = Refuses e c s × (t ≡ s)
Applies e c s t (Some tree) =
    (m : Macro) × (called_macro s c ≡ Some m) × (m.err ≡ None) × Makes e s c m tree None
    × (t ≡ with_written tree (with_step_contexts c s))

-- The tree that is to replace a call, or nothing where the call is not expanded.
abbrev pub Tries : Setting → MacroCall → ℕ → ℕ → State → State → Option Top → Type 0
Tries e c levels depth s t None = StaysUnexpanded e c depth s levels t
Tries e c levels depth s t (Some tree) =
    IsReplaced e c levels depth s tree × (t ≡ after_step c tree s)
