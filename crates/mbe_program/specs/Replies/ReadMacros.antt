-- A definition that is read once: what was read, and what it answers to arguments.
use Rattle.std.specs.Prelude.{◌≡◌, ℕ, List, Option, None, Ok}
use Rattle.mbe_tt.specs.declared.span.Span.{Span}
use Rattle.mbe_tt.specs.Trees.Top.{Top, top_group}
use Rattle.mbe_tt.specs.Grammars.Grammar.{Grammar}
use Rattle.mbe_grammar.specs.Peg.Grammar.{read_text}
use Rattle.mbe_grammar.specs.Peg.Views.{grammar_model}
use Rattle.mbe_semantics.specs.Expansion.Error.{ExpandError}
use Rattle.mbe_semantics.specs.Expansion.ParsedMacro.{IsParsedRules}
use Rattle.mbe.specs.MacroViews.{macro_of}
use Rattle.mbe.specs.OneAnswer.{IsAnswer}
use Rattle.mbe_program.specs.declared.replies.flat.flat_token.FlatSpan.{FlatSpan}
use Rattle.mbe_program.specs.declared.replies.answer.RequestPart.TheVariants as parts
use Rattle.mbe_program.specs.declared.replies.answer.Status.TheVariants.{Number}
use Rattle.mbe_program.specs.declared.replies.request_codes.GrammarKind.TheVariants as grammars
use Rattle.mbe_program.specs.declared.replies.requests.Request.{Request}
use Rattle.mbe_program.specs.declared.replies.requests.RequestSettings.{RequestSettings}
use Rattle.mbe_program.specs.declared.replies.read_macro.Fragments.{Fragments}
use Rattle.mbe_program.specs.declared.replies.read_macro.Fragments.TheVariants as fragments
use Rattle.mbe_program.specs.declared.replies.read_macro.BorrowedMacro.{BorrowedMacro}
use Rattle.mbe_program.specs.declared.replies.read_macro.ReadMacro.{ReadMacro}
use Rattle.mbe_program.specs.Replies.Answers.{Answer, empty}
use Rattle.mbe_program.specs.Replies.Requests.{AreRequestSettings, AreTreesOf, HasNoTrees}
use Rattle.mbe_program.specs.Replies.Requests.{IsNoResult, IsRustTable, IsText, IsUnknown, Expands}
use Rattle.mbe_program.specs.Replies.Requests.{ExpandsTrees, Source, expansion_shown}
use Rattle.mbe_program.specs.TreeExpansion.{IsEdition, IsItself}

-- ---- what was read

-- The grammar that was read is the settings' grammar: the sample grammar, Rust's table, or the
-- rules of the text.
abbrev pub AreFragments : {A : Type 0} → RequestSettings → List ℕ → Fragments A → Type 0
AreFragments s text fragments.Sample = s.grammar ≡ grammars.Sample
AreFragments s text (fragments.Rust table) =
    (s.grammar ≡ grammars.Rust) × IsRustTable s.edition table
AreFragments s text (fragments.Text rules) =
    (s.grammar ≡ grammars.Text) × IsText text × (read_text text ≡ Ok (grammar_model rules))

-- The macro was read from these trees, and its grammar from that text if the settings ask for it.
abbrev pub IsMacroOf : {A : Type 0} → List ℕ → Top → ReadMacro A → Type 0
IsMacroOf text definition m = AreFragments m.asked text m.fragments
    × IsParsedRules (IsEdition m.asked.edition) definition.1
    (record { rules = (macro_of m.read.rules).rules; err = None })

-- The macro was read for that request, from that definition and that text of a grammar.
abbrev pub IsMacro : {A : Type 0} → Request → List ℕ → Source → ReadMacro A → Type 0
IsMacro r text definition m =
    AreRequestSettings r m.asked × ((rules : Top) × AreTreesOf m.asked.dialect definition rules
    × IsMacroOf text rules m)

-- No macro is read. The answer names the first fault, in the order of reading.
pub data IsUnread (r : Request) (text : List ℕ) (definition : Source) (a : Answer) : Type 0 where
  unknown_number : IsUnknown r → a ≡ empty Number parts.None → IsUnread r text definition a
  no_trees_to_read : (s : RequestSettings) → AreRequestSettings r s
      → HasNoTrees s.dialect definition a → IsUnread r text definition a
  no_macro_to_read : (s : RequestSettings) → AreRequestSettings r s → (rules : Top)
      → AreTreesOf s.dialect definition rules
      → IsNoResult s text rules a
      → IsUnread r text definition a

-- ---- what it makes of arguments

-- A borrowed macro as a macro that owns what it holds.
abbrev pub borrowed : {A : Type 0} → BorrowedMacro A → ReadMacro A
borrowed u = record { asked = u.asked; fragments = u.fragments.now; read = u.read.now }

-- The same settings or request, with another call site.
abbrev pub at_site : RequestSettings → Span → RequestSettings
at_site s site = record s { call_site = site }

abbrev pub asked_at : Request → FlatSpan → Request
asked_at r site = record r { call_site = site }

-- The answer shows the expansion of an argument by that grammar, in a call at that span.
abbrev pub IsExpansionOf : {A : Type 0} → Grammar → ReadMacro A → Top → Span → Answer → Type 0
IsExpansionOf g m argument site a = (tree : Top) × (rule : Option ℕ) × (err : Option ExpandError)
    × IsAnswer g IsItself (macro_of m.read.rules).rules m.asked.style argument site (top_group tree)
    rule err
    × (a ≡ expansion_shown m.asked.form tree rule err)

-- The answer is that to a call with each text and each definition that the macro may have been read
-- from.
abbrev pub AnswersTreesBy : {A : Type 0} → ReadMacro A → Top → Span → Answer → Type 0
AnswersTreesBy m argument site a =
    (text : List ℕ) (definition : Top) → IsMacroOf text definition m
    → ExpandsTrees (at_site m.asked site) text definition argument a

-- The answer is that of `expand`, for every request that the macro may have been read for, with
-- that call site.
abbrev pub AnswersBy : {A : Type 0} → ReadMacro A → Source → FlatSpan → Answer → Type 0
AnswersBy m argument site a =
    (r : Request) (text : List ℕ) (definition : Source) → IsMacro r text definition m
    → Expands (asked_at r site) text definition argument a
