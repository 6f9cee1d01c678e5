-- How the first link of an expression determines the result for the whole expression.
use Rattle.std.specs.Prelude.{ℕ, ◌<◌, ⊤, Result, Ok, Err}
use Rattle.mbe_tt.specs.Trees.Tree.{flat_len}
use Rattle.mbe_tt.specs.Views.View.{trees}
use Rattle.mbe_grammar.specs.declared.tables.parse_result.ParseFailure.{ParseFailure}
use Rattle.mbe_grammar.specs.declared.sample_expressions.Link.{Link}
use Rattle.mbe_grammar.specs.declared.sample_expressions.Link.TheVariants.{End, Continues}
use Rattle.mbe_grammar.specs.Tables.Terminals.{ParseResult}
use Rattle.mbe_grammar.specs.Tables.Rule.{require_match}
use Rattle.mbe_grammar.specs.SampleGrammar.{Expr, takes}

-- If the expression ends after its link, the result is that of the link. Else it is the result of
-- the rest, which must match.
abbrev pub whole : {A : Type 0} → Result (Link A) ParseFailure → ParseResult
whole (Ok (End rest)) = Ok (trees rest)
whole (Ok (Continues rest)) = require_match (takes Expr (trees rest))
whole (Err miss) = Err miss

-- the rest has fewer than n flat tokens
abbrev pub ContinuesWithin : {A : Type 0} → ℕ → Result (Link A) ParseFailure → Type 0
ContinuesWithin n (Ok (End rest)) = ⊤
ContinuesWithin n (Ok (Continues rest)) = flat_len (trees rest) < n
ContinuesWithin n (Err miss) = ⊤
