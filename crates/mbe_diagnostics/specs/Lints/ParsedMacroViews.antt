-- What a parsed definition stands for, whatever memory holds it.
use Rattle.std.specs.Prelude.{option_map}
use Rattle.mbe_ops.specs.Errors.ErrorViews.{parse_error_of}
use Rattle.mbe_parser.specs.RuleViews.{rules_seen}
use Rattle.mbe_semantics.specs.Expansion.Macro.{Macro}
use Rattle.mbe_diagnostics.specs.declared.lints.parsed_macro.ParsedMacro as code

abbrev pub macro_read : {A : Type 0} → code.ParsedMacro A → Macro
macro_read r = record { rules = rules_seen r.rules.items; err = option_map parse_error_of r.err }
