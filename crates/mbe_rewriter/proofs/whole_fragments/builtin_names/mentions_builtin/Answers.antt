use Rattle.std.proofs.Common.{ap, sym, ◌∙◌}
use Rattle.mbe_rewriter.specs.WholeFragments.BuiltinNames.{has_builtin_name}
use Rattle.mbe_rewriter.proofs.Worded.NameLemmas.{unworded}
use Rattle.mbe_rewriter.proofs.whole_fragments.builtin_names.mentions_builtin.Goals as goal

pub returns-clause-stay : goal.returns-clause-stay
returns-clause-stay g c = λ e b.
    unworded 1000 b c.args.tree.now.1 (sym (c.has_builtin_name.ensures
    ∙ ap (has_builtin_name 1000) (c.remaining.ensures ∙ c.iter.ensures))
    ∙ e)
