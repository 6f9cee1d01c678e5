-- A kept macro: what was read, and what it answers to calls.
use Rattle.std.specs.Prelude.{◌≡◌, ℕ, List, length, Some, None}
use Rattle.mbe_tt.specs.Trees.Top.{Top}
use Rattle.mbe_semantics.specs.declared.macro_call_style.MacroCallStyle.{MacroCallStyle}
use Rattle.mbe_semantics.specs.Expansion.ParsedMacro.{IsParsedRules}
use Rattle.mbe.specs.MacroViews.{macro_of}
use Rattle.mbe_program.specs.Replies.Flat.TokenCodes.{span_of}
use Rattle.mbe_program.specs.declared.replies.request_codes.TreeForm.{TreeForm}
use Rattle.mbe_program.specs.declared.replies.request_codes.GrammarKind.TheVariants as grammars
use Rattle.mbe_program.specs.declared.replies.requests.Request.{Request}
use Rattle.mbe_program.specs.declared.replies.requests.RequestSettings.{RequestSettings}
use Rattle.mbe_program.specs.declared.replies.kept_macro.KeptCall.{KeptCall}
use Rattle.mbe_program.specs.declared.replies.kept_macro.KeptMacro.{KeptMacro}
use Rattle.mbe_program.specs.Replies.Answers.{Answer}
use Rattle.mbe_program.specs.Replies.RequestCodes.{form_of, style_of}
use Rattle.mbe_program.specs.Replies.Requests.{AreRequestSettings, AreTreesOf, Expands}
use Rattle.mbe_program.specs.Replies.Requests.{IsGrammarText, Source}
use Rattle.mbe_program.specs.TreeExpansion.{IsEdition}

-- ---- what was read

-- The macro was read for that request, from that definition and that text of a grammar.
pub record IsKept {A : Type 0} (r : Request) (text : List ℕ) (definition : Source)
    (m : KeptMacro A) : Type 0 where
  pub asked : AreRequestSettings r m.asked
  pub trees : Top
  pub defined : AreTreesOf m.asked.dialect definition trees
  pub read : IsParsedRules (IsEdition m.asked.edition) trees.1 (record {
    rules = (macro_of m.read.rules).rules;
    err = None;
  })
  pub kept : m.asked.grammar ≡ grammars.Text → m.grammar.items ≡ text
  pub is_one : m.asked.grammar ≡ grammars.Text → IsGrammarText text

-- The number of rules.
abbrev pub rule_count : {A : Type 0} → KeptMacro A → ℕ
rule_count m = length (macro_of m.read.rules).rules

-- ---- what a call asks

-- The request that a macro was read for, with what a call asks.
abbrev pub asked_as : Request → KeptCall → Request
asked_as r c = record r {
  style = c.style;
  form = c.form;
  argument_is_flat = c.argument_is_flat;
  call_site = c.call_site;
}

-- The settings of a call to a macro that was read with the settings `asked`.
pub record AreAtCall (asked : RequestSettings) (c : KeptCall) (s : RequestSettings) : Type 0 where
  pub style : style_of c.style ≡ Some s.style
  pub form : form_of c.form ≡ Some s.form
  pub others : s ≡ record asked { style = s.style; form = s.form; call_site = span_of c.call_site }

-- A number of the call has no meaning.
abbrev pub IsUnknownCall : KeptCall → Type 0
IsUnknownCall c = (style : MacroCallStyle) (form : TreeForm) → style_of c.style ≡ Some style
    → ¬ (form_of c.form ≡ Some form)

-- ---- what it answers

-- The answer is that of `expand`, for every request that the macro may have been read for, with
-- what the call asks.
abbrev pub AnswersCall : {A : Type 0} → KeptMacro A → KeptCall → Source → Answer → Type 0
AnswersCall m c argument a =
    (r : Request) (text : List ℕ) (definition : Source) → IsKept r text definition m
    → Expands (asked_as r c) text definition argument a
