use Rattle.std.proofs.Common.{◌≡◌, map, ◌++◌}
use Rattle.std.specs.Prelude.{option_map}
use Rattle.mbe_tt.specs.Trees.Tree.{flat_len}
use Rattle.mbe_semantics.specs.Syntax.Template.{elements_of}
use Rattle.mbe_ops.specs.Expressions.{element_seen}
use Rattle.mbe_parser.proofs.parser.metavar_expr.parse_elements.Given as goal

abbrev pub invariant-elements : goal.invariant-elements
invariant-elements g l = elements_of l.fn.src
    ≡ option_map (λ es. map element_seen l.elements.items ++ es) (elements_of l.src)

abbrev pub decreases-elements : goal.decreases-elements
decreases-elements g l = flat_len l.src
