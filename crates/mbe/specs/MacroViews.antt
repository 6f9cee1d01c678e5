-- How contracts see a parsed macro: its rules, and the error that it reports.
use Rattle.std.specs.Prelude.{option_map}
use Rattle.mbe.specs.declared.macros.DeclarativeMacro.{DeclarativeMacro}
use Rattle.mbe_semantics.specs.Expansion.Macro.{Macro}
use Rattle.mbe_parser.specs.RuleViews.{rules_seen}
use Rattle.mbe_ops.specs.Errors.ErrorViews.{parse_error_of}

abbrev pub macro_of : {A : Type 0} → DeclarativeMacro A → Macro
macro_of m = record { rules = rules_seen m.rules.items; err = option_map parse_error_of m.err }
