-- How contracts see the code's fragments, independent of memory.
use Rattle.mbe_tt.specs.Trees.Tree.{none}
use Rattle.mbe_tt.specs.Views.View.{trees}
use Rattle.mbe_tt.specs.Trees.Top.{top_group}
use Rattle.mbe_log.specs.declared.fragment.Fragment as code
use Rattle.mbe_log.specs.declared.fragment.TokensOrigin.{TokensOrigin}
use Rattle.mbe_log.specs.declared.fragment.TokensOrigin.TheVariants.{Raw, Ast}
use Rattle.mbe_semantics.specs.Fragments.Kinds.{Style, plain, stripped, as_expression, as_path}
use Rattle.mbe_semantics.specs.Fragments.Kinds.{whole}
use Rattle.mbe_semantics.specs.Readings.Item.{Fragment}

-- the style of a fragment of tokens: one that the grammar parsed keeps an invisible group around it
abbrev pub origin_style : TokensOrigin → Style
origin_style Raw = stripped
origin_style Ast = plain

-- the fragment
abbrev pub fragment_seen : {A : Type 0} → code.Fragment A → Fragment
fragment_seen code.TheVariants.Empty = record { trees = none; style = plain }
fragment_seen (code.TheVariants.Tokens tree origin) =
    record { trees = trees tree; style = origin_style origin }
fragment_seen (code.TheVariants.Expr tree) = record { trees = trees tree; style = as_expression }
fragment_seen (code.TheVariants.Path tree) = record { trees = trees tree; style = as_path }
fragment_seen (code.TheVariants.TokensOwned tree) = record { trees = top_group tree; style = plain }
fragment_seen (code.TheVariants.Whole tree kind) =
    record { trees = trees tree; style = whole kind }
