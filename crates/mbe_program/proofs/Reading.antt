-- A definition that is read, and the argument beside it: what they make, or why there is nothing.
use Rattle.std.proofs.Common.{◌≡◌, ℕ, List, length, Option, None}
use Rattle.mbe_tt.specs.declared.span.Edition.{Edition}
use Rattle.mbe_tt.specs.Trees.Tree.{Forest}
use Rattle.mbe_tt.specs.Trees.Top.{Top}
use Rattle.mbe_grammar.specs.SampleGrammar.{sample}
use Rattle.mbe_semantics.specs.declared.macro_call_style.MacroCallStyle.TheVariants.{FnLike}
use Rattle.mbe_semantics.specs.Expansion.Error.{ExpandError}
use Rattle.mbe_semantics.specs.Expansion.Macro.{Macro}
use Rattle.mbe_semantics.specs.Expansion.ParsedMacro.{IsParsedRules}
use Rattle.mbe_semantics.specs.Readings.Verdict.{Verdict}
use Rattle.mbe.specs.OneAnswer.{IsAnswer}
use Rattle.mbe_text.specs.Tokens.{bytes_of}
use Rattle.mbe_program.specs.declared.tree_expansion.DefinitionError.{DefinitionError}
use Rattle.mbe_program.specs.declared.program.Outcome.{Outcome}
use Rattle.mbe_program.specs.TreeExpansion.{AreVerdicts, HasNoMacro, IsEdition, IsItself, IsMacroOf}
use Rattle.mbe_program.specs.TextExpansion.{AreRead, AreTrees, ExpandsTexts, IsUnexpanded, outcome_of}
use Rattle.mbe_program.specs.VerdictLines.{ExplainsTexts}
use Rattle.mbe_program.proofs.OutcomeLemmas.{no_macro, refused}

-- the definition is a macro's
pub macro_is : (edition : Edition) (definition : Forest) (m : Macro)
    → IsParsedRules (IsEdition edition) definition (record { rules = m.rules; err = None }) → m.err ≡ None
    → IsMacroOf edition definition m
macro_is edition definition m read faultless = record { read = read; faultless = faultless }

-- and the argument has trees
pub both_are : (edition : Edition) (def_text arg_text : List ℕ) (definition argument : Top) (m : Macro)
    → AreTrees def_text arg_text definition argument → IsMacroOf edition definition.1 m
    → AreRead edition def_text arg_text m argument
both_are edition def_text arg_text definition argument m trees is =
    record { definition = definition; trees = trees; macro_is = is }

-- both texts have trees, and the definition has no macro
pub unread : {A : Type 0} (edition : Edition) (def_text arg_text : List ℕ) (definition argument : Top)
    (why : DefinitionError A)
    (outcome : Outcome A)
    → AreTrees def_text arg_text definition argument → HasNoMacro edition definition.1 why
    → outcome ≡ outcome_of why → IsUnexpanded edition def_text arg_text outcome
unread edition def_text arg_text definition argument why outcome trees h is =
    refused edition def_text arg_text definition argument outcome trees (no_macro edition definition.1 why outcome h is)

-- what is read has no fault
pub faultless : (edition : Edition) (def_text arg_text : List ℕ) (m : Macro) (argument : Top)
    → AreRead edition def_text arg_text m argument → m.err ≡ None
faultless edition def_text arg_text m argument r = r.macro_is.faultless

-- its answer is that of the texts
pub expands : (edition : Edition) (def_text arg_text : List ℕ) (m : Macro) (argument : Top) (out : Forest)
    (index : Option ℕ) (err : Option ExpandError)
    → AreRead edition def_text arg_text m argument
    → IsAnswer sample IsItself m.rules FnLike argument (bytes_of 1 0 (length arg_text)) out index err
    → ExpandsTexts edition def_text arg_text out index err
expands edition def_text arg_text m argument out index err r answers = record {
  definition = r.definition;
  argument = argument;
  trees = r.trees;
  expands = record { rules = m.rules; read = r.macro_is.read; answers = answers };
}

-- and so are its verdicts
pub explains : (edition : Edition) (def_text arg_text : List ℕ) (m : Macro) (argument : Top) (answers : List Verdict)
    → AreRead edition def_text arg_text m argument → AreVerdicts sample argument.1 m.rules answers
    → ExplainsTexts edition def_text arg_text answers
explains edition def_text arg_text m argument answers r verdicts =
    (r.definition, argument, r.trees, record { rules = m.rules; read = r.macro_is.read; verdicts = verdicts })
