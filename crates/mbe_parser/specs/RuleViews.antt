-- How contracts see the code's rules, independent of memory.
use Rattle.std.specs.Prelude.{List, map}
use Rattle.mbe_parser.specs.declared.rules.Rule as written
use Rattle.mbe_semantics.specs.Syntax.Definition.{Rule}
use Rattle.mbe_ops.specs.Views.{template_of}

abbrev pub rule_of : {A : Type 0} → written.Rule A → Rule
rule_of r = record { style = r.style; reads = template_of r.lhs; writes = template_of r.rhs }

abbrev pub rules_seen : {A : Type 0} → List (written.Rule A) → List Rule
rules_seen rs = map rule_of rs
