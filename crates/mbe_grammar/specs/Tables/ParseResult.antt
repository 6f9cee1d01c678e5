-- The result of a rule in the code, as a result of the specification.
use Rattle.std.specs.Prelude.{Result, Ok, Err}
use Rattle.mbe_tt.specs.Views.View.{trees}
use Rattle.mbe_tt.specs.declared.view.TokenTreesView.{TokenTreesView}
use Rattle.mbe_grammar.specs.declared.tables.parse_result.ParseFailure.{ParseFailure}
use Rattle.mbe_grammar.specs.Tables.Terminals.{ParseResult}

-- the trees that are left, or why the rule doesn't match
abbrev pub result_model : {A : Type 0} → Result (TokenTreesView A) ParseFailure → ParseResult
result_model (Ok view) = Ok (trees view)
result_model (Err miss) = Err miss
