-- How a run with `--lint` ends, and what it writes.
use Rattle.std.specs.Prelude.{ℕ, suc, ⊤, ◌≡◌, List, [], ◌∷◌, ◌++◌, codes, Option, None}
use Rattle.std.specs.Fmt.{decimal}
use Rattle.std.specs.Io.KnownBytes.{Appends}
use Rattle.mbe_tt.specs.declared.span.Edition.{Edition}
use Rattle.mbe_tt.specs.Trees.Tree.{Forest}
use Rattle.mbe_tt.specs.Trees.Top.{Top}
use Rattle.mbe_grammar.specs.SampleGrammar.{sample}
use Rattle.mbe_semantics.specs.Readings.Verdict.{Verdict, one_reading, many_readings, ambiguous}
use Rattle.mbe_semantics.specs.Readings.Verdict.{stuck}
use Rattle.mbe_text.specs.WriterBytes.{WritesPrefix}
use Rattle.mbe_program.specs.declared.program.Outcome.{Outcome}
use Rattle.mbe_program.specs.declared.program.Outcome.TheVariants.{Expanded, Linted, Faulted}
use Rattle.mbe_program.specs.declared.program.Outcome.TheVariants.{CannotWrite}
use Rattle.mbe_program.specs.TreeExpansion.{ExplainsBy}
use Rattle.mbe_program.specs.TextExpansion.{AreTrees, IsUnexpanded}

-- ---- verdicts

-- The verdicts on an argument by the sample grammar.
abbrev pub ExplainsTrees : Edition → Forest → Forest → List Verdict → Type 0
ExplainsTrees = ExplainsBy sample

-- ---- lines

-- The text of a verdict.
abbrev pub verdict_text : Verdict → List ℕ
verdict_text one_reading = codes "one reading"
verdict_text many_readings = codes "several readings"
verdict_text (ambiguous place) = codes "ambiguous at " ++ decimal place
verdict_text (stuck place) = codes "stuck at " ++ decimal place

-- The text of a rule's line.
abbrev pub line_of : ℕ → Verdict → List ℕ
line_of rule v = codes "rule " ++ (decimal rule ++ (codes ": " ++ verdict_text v))

-- A line for each verdict. The rules count from that number.
abbrev pub lines_from : ℕ → List Verdict → List ℕ
lines_from rule [] = []
lines_from rule (v ∷ vs) = (line_of rule v ++ codes "\n") ++ lines_from (suc rule) vs

-- ---- a run

-- These are the verdicts for the trees of the texts.
abbrev pub ExplainsTexts : Edition → List ℕ → List ℕ → List Verdict → Type 0
ExplainsTexts edition def_text arg_text verdicts =
    (definition : Top) × (argument : Top) × AreTrees def_text arg_text definition argument
    × ExplainsTrees edition definition.1 argument.1 verdicts

-- A run that lints ends as `Linted`, and has written a line for each verdict. If a write fails, a
-- prefix is written. Without verdicts nothing is written. Such a run never ends as `Expanded` or
-- `Faulted`.
abbrev pub Lints : {A : Type 0} → Edition → List ℕ → List ℕ → Option (List ℕ) → Option (List ℕ)
    → Outcome A → Type 0
Lints edition def_text arg_text before after Linted =
    (verdicts : List Verdict) × ExplainsTexts edition def_text arg_text verdicts
    × Appends before after (lines_from 0 verdicts)
Lints edition def_text arg_text before after CannotWrite =
    (verdicts : List Verdict) × (left : List ℕ) × ExplainsTexts edition def_text arg_text verdicts
    × WritesPrefix before after (lines_from 0 verdicts) left
Lints edition def_text arg_text before after Expanded = ⊥
Lints edition def_text arg_text before after Faulted = ⊥
Lints edition def_text arg_text before after outcome =
    IsUnexpanded edition def_text arg_text outcome × (after ≡ before)
