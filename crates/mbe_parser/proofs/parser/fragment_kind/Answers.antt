use Rattle.std.proofs.Common.{rules}
use Rattle.mbe_parser.proofs.ReaderLemmas.{known, pat_dated, expr_dated}
use Rattle.mbe_parser.proofs.parser.fragment_kind.Goals as goal

pub returns-then-is_expr : goal.returns-then-is_expr
returns-then-is_expr g c = expr_dated _ _ _ c.expr_kind.result c.as_str-name.ensures (search rules) c.expr_kind.ensures

pub returns-then-is_pat : goal.returns-then-is_pat
returns-then-is_pat g c = pat_dated _ _ _ c.pat_kind.result c.as_str-name.ensures (search rules) c.pat_kind.ensures

pub returns : goal.returns
returns g c = known _ _ _ _ c.as_str-name.ensures (search rules) (search rules) c.from_specifier.ensures
