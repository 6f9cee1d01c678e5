use Rattle.std.proofs.Common.{None, Some, sym, ap, ◌∙◌, rules}
use Rattle.mbe.specs.MacroViews.{macro_of}
use Rattle.mbe_program.proofs.EditionLemmas.{read_in}
use Rattle.mbe_program.proofs.tree_expansion.defined.Goals as goal

pub returns-in-Some-clause-refused : goal.returns-in-Some-clause-refused
returns-in-Some-clause-refused g c = (
  (macro_of c.in_ok-rules.rules).rules,
  read_in c.args.edition c.args.definition.now.1 (macro_of c.in_ok-rules.rules) _ c.in_ok-rules.ensures
      (λ context answer asked. search rules)
      (sym c.in-Some.ensures ∙ ap Some (sym c.in_ok-try_clone.ensures)),
)

pub returns-clause-read : goal.returns-clause-read
returns-clause-read g c =
    read_in c.args.edition c.args.definition.now.1 (macro_of c.in_ok-rules.rules) None c.in_ok-rules.ensures
    (λ context answer asked. search rules)
    (sym c.in_default.ensures)
