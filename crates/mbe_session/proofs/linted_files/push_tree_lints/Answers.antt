use Rattle.std.proofs.Common.{◌∙◌, rules}
use Rattle.mbe_tt.specs.Views.View.{trees}
use Rattle.mbe_session.proofs.LintLemmas.{tree_linted}
use Rattle.mbe_session.proofs.linted_files.push_tree_lints.Goals as goal

pub returns : goal.returns
returns c =
    tree_linted c.push_lints.result c.args.edition (trees c.remaining.result) c.args.tree.now.1 _ _
    (λ context answer asked. search rules) (c.remaining.ensures ∙ c.iter.ensures) c.push_lints.ensures
