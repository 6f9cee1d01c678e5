use Rattle.std.proofs.Common.{◌≡◌, Err}
use Rattle.mbe_tt.specs.Trees.Tree.{flat_len}
use Rattle.mbe_tt.specs.Views.View.{trees}
use Rattle.mbe_grammar.specs.Tables.Rule.{or_else}
use Rattle.mbe_grammar.specs.SampleGrammar.{takes, Expr}
use Rattle.mbe_grammar.proofs.sample_expressions.expr.Given as goal

abbrev pub invariant-links : goal.invariant-links
invariant-links g l = or_else (takes Expr (trees l.rest)) (Err l.otherwise) ≡ takes Expr (trees l.fn.tokens)

abbrev pub decreases-links : goal.decreases-links
decreases-links g l = flat_len (trees l.rest)
