-- What is wrong in an attribute, and its message.
use Rattle.std.specs.Prelude.{ℕ, List, codes, Result, Err}
use Rattle.mbe_tt.specs.declared.span.Span.{Span}
use Rattle.mbe_cfg.specs.declared.cfg_fault.CfgFault.{CfgFault}
use Rattle.mbe_cfg.specs.declared.cfg_fault.CfgFaultKind.{CfgFaultKind}
use Rattle.mbe_cfg.specs.declared.cfg_fault.CfgFaultKind.TheVariants as w

abbrev pub fails : {A : Type 0} → CfgFaultKind → Span → Result A CfgFault
fails fault_kind at = Err (record { fault_kind = fault_kind; at = at })

abbrev pub message : CfgFaultKind → List ℕ
message w.Malformed = codes "malformed attribute input: expected parentheses"
message w.NotOne = codes "expected exactly one predicate"
message w.Invalid = codes "invalid predicate"
message w.Unstable = codes "this predicate is experimental"
message w.NoName = codes "expected identifier"
message w.Path = codes "expected an identifier, found a path"
message w.NoString = codes "literal in `cfg` predicate value must be a string"
message w.Suffix = codes "suffixes on string literals are invalid"
message w.Escape = codes "escapes in the value of a `cfg` predicate aren't supported"
message w.NoComma = codes "expected `,`"
message w.TooDeep = codes "predicates are nested too deep"
