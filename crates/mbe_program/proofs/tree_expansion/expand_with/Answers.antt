use Rattle.std.proofs.Common.{rules}
use Rattle.mbe.specs.MacroViews.{macro_of}
use Rattle.mbe_program.proofs.MarkLemmas.{answers_unmarked}
use Rattle.mbe_program.proofs.tree_expansion.expand_with.Goals as goal

pub returns : goal.returns
returns g c =
    answers_unmarked (g.G.FragmentGrammar.grammar c.args.grammar.now) (macro_of c.args.rules.now).rules c.args.style
    c.args.argument.now
    c.args.call_site _ _ _ (record {
      expands = c.in_ok-expansion.ensures.expands;
      recovers = c.in_ok-expansion.ensures.recovers;
    })
    (λ span marked asked. search rules)
