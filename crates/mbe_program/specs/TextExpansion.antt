-- How a run without `--lint` ends, and what it writes.
use Rattle.std.specs.Prelude.{◌≡◌, ⊤, ℕ, List, length, Option, Some, None, Result, Ok, Err}
use Rattle.std.specs.Io.KnownBytes.{Appends}
use Rattle.mbe_tt.specs.declared.span.Edition.{Edition}
use Rattle.mbe_tt.specs.declared.span.Span.{Span}
use Rattle.mbe_tt.specs.Trees.Tree.{Forest}
use Rattle.mbe_tt.specs.Trees.Top.{Top}
use Rattle.mbe_grammar.specs.SampleGrammar.{sample}
use Rattle.mbe_semantics.specs.Expansion.Error.{ExpandError}
use Rattle.mbe_semantics.specs.Expansion.Macro.{Macro}
use Rattle.mbe_semantics.specs.declared.macro_call_style.MacroCallStyle.TheVariants.{FnLike}
use Rattle.mbe_text.specs.Tokens.{IsLexed, bytes_of}
use Rattle.mbe_text.specs.LexedTrees.{sample_trees}
use Rattle.mbe_text.specs.WriterBytes.{WritesPrefix}
use Rattle.mbe_program.specs.TreeExpansion.{ExpandsBy, HasNoMacro, IsMacroOf}
use Rattle.mbe_program.specs.ExpansionText.{printed}
use Rattle.mbe_program.specs.declared.tree_expansion.DefinitionError.{DefinitionError}
use Rattle.mbe_program.specs.declared.tree_expansion.DefinitionError.TheVariants as unread
use Rattle.mbe_program.specs.declared.program.Outcome.{Outcome}
use Rattle.mbe_program.specs.declared.program.Outcome.TheVariants.{Expanded, Linted, Faulted}
use Rattle.mbe_program.specs.declared.program.Outcome.TheVariants.{Refused, CannotLex, CannotWrite}
use Rattle.mbe_program.specs.declared.program.Outcome.TheVariants.{OutOfMemory}

-- The answer to a function-like call with this argument, by the sample grammar.
abbrev pub ExpandsTrees : Edition → Forest → Top → Span → Forest → Option ℕ → Option ExpandError
    → Type 0
ExpandsTrees edition definition argument = ExpandsBy sample edition definition FnLike argument

-- How a run ends whose definition has no macro.
abbrev pub outcome_of : {A : Type 0} → DefinitionError A → Outcome A
outcome_of (unread.Refused error) = Refused error
outcome_of unread.OutOfMemory = OutOfMemory

-- There is no expansion: the definition has that fault in that edition, or memory ran out.
abbrev pub IsRefused : {A : Type 0} → Edition → Forest → Outcome A → Type 0
IsRefused edition definition (Refused error) = HasNoMacro edition definition (unread.Refused error)
IsRefused edition definition OutOfMemory = ⊤
IsRefused edition definition outcome = ⊥

-- ---- from texts

-- The trees of both texts, the definition as file 0 and the argument as file 1; or the first fault,
-- by its file and its byte.
abbrev pub both_trees : List ℕ → List ℕ → Result (Top × Top) (ℕ × ℕ)
both_trees def_text arg_text = elim (sample_trees 0 def_text) [
  | Err offset ↦ Err (0, offset)
  | Ok definition ↦ elim (sample_trees 1 arg_text)
      [ Err offset ↦ Err (1, offset) | Ok argument ↦ Ok (definition, argument) ]
]

-- These are the trees of both texts. The tokens of the texts make them as they are spelled there.
pub record AreTrees (def_text arg_text : List ℕ) (definition argument : Top) : Type 0 where
  pub divided : both_trees def_text arg_text ≡ Ok (definition, argument)
  pub defined : IsLexed 0 def_text definition
  pub given : IsLexed 1 arg_text argument

-- This is the macro of the definition's trees, without a fault, and these are the trees of the
-- argument.
pub record AreRead (edition : Edition) (def_text arg_text : List ℕ) (m : Macro)
    (argument : Top) : Type 0 where
  pub definition : Top
  pub trees : AreTrees def_text arg_text definition argument
  pub macro_is : IsMacroOf edition definition.1 m

-- The answer to a call with these texts. It is the answer for their trees, with the whole argument
-- as call site.
pub record ExpandsTexts (edition : Edition) (def_text arg_text : List ℕ) (out : Forest)
    (index : Option ℕ)
    (err : Option ExpandError) : Type 0 where
  pub definition : Top
  pub argument : Top
  pub trees : AreTrees def_text arg_text definition argument
  pub expands : ExpandsTrees edition definition.1 argument (bytes_of 1 0 (length arg_text)) out
      index err

-- The outcome says that this byte of the file's text is at fault, or that memory ran out.
abbrev pub IsAtFault : {A : Type 0} → ℕ → List ℕ → Outcome A → Type 0
IsAtFault file text (CannotLex f offset) = (f ≡ file) × (sample_trees file text ≡ Err offset)
IsAtFault file text OutOfMemory = ⊤
IsAtFault file text outcome = ⊥

-- The texts have no trees: that byte of that file is the first at fault, or memory ran out.
abbrev pub IsUnlexed : {A : Type 0} → List ℕ → List ℕ → Outcome A → Type 0
IsUnlexed def_text arg_text (CannotLex file offset) =
    both_trees def_text arg_text ≡ Err (file, offset)
IsUnlexed def_text arg_text OutOfMemory = ⊤
IsUnlexed def_text arg_text outcome = ⊥

-- There is no expansion of the texts: the definition's trees have that fault, or that byte of that
-- file is the first at fault, or memory ran out.
abbrev pub IsUnexpanded : {A : Type 0} → Edition → List ℕ → List ℕ → Outcome A → Type 0
IsUnexpanded edition def_text arg_text (Refused error) =
    (definition : Top) × (argument : Top) × AreTrees def_text arg_text definition argument
    × IsRefused edition definition.1 (Refused error)
IsUnexpanded edition def_text arg_text outcome = IsUnlexed def_text arg_text outcome

-- A run ends as `Expanded` if the answer has no error, as `Faulted` if it has one. In both cases
-- the printed answer is written. If a write fails, a prefix is written. Without an answer nothing
-- is written. Such a run never ends as `Linted`.
abbrev pub EndsExpand : {A : Type 0} → Edition → List ℕ → List ℕ → Option (List ℕ) → Option (List ℕ)
    → Outcome A → Type 0
EndsExpand edition def_text arg_text before after Expanded =
    (out : Forest) × (index : Option ℕ) × ExpandsTexts edition def_text arg_text out index None
    × Appends before after (printed out index None)
EndsExpand edition def_text arg_text before after Faulted =
    (out : Forest) × (index : Option ℕ) × (e : ExpandError)
    × ExpandsTexts edition def_text arg_text out index (Some e)
    × Appends before after (printed out index (Some e))
EndsExpand edition def_text arg_text before after CannotWrite =
    (out : Forest) × (index : Option ℕ) × (err : Option ExpandError) × (left : List ℕ)
    × ExpandsTexts edition def_text arg_text out index err
    × WritesPrefix before after (printed out index err) left
EndsExpand edition def_text arg_text before after Linted = ⊥
EndsExpand edition def_text arg_text before after outcome =
    IsUnexpanded edition def_text arg_text outcome × (after ≡ before)
