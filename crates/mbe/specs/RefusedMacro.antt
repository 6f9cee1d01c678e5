-- Macros that may not be expanded: they have a rule, and a pattern was refused.
use Rattle.std.specs.Prelude.{Bool, true, false, List, [], ◌∷◌, Option, Some, None}
use Rattle.mbe_semantics.specs.Syntax.Template.{Fault, unexpected_token, expected, invalid_repeat}
use Rattle.mbe_semantics.specs.Syntax.Template.{empty_repetition}
use Rattle.mbe_semantics.specs.Syntax.Definition.{Rule}
use Rattle.mbe_semantics.specs.Expansion.Macro.{Macro}

-- whether rules with that error may not be expanded
abbrev pub refuses : Option Fault → List Rule → Bool
refuses None rules = false
refuses (Some empty_repetition) [] = false
refuses (Some empty_repetition) (rule ∷ rules) = true
refuses (Some invalid_repeat) rules = false
refuses (Some (unexpected_token text)) rules = false
refuses (Some (expected text)) rules = false

abbrev pub is_refused : Macro → Bool
is_refused m = refuses m.err m.rules
