use Rattle.std.proofs.Common.{subst, sym}
use Rattle.mbe_parser.specs.RuleViews.{rules_seen}
use Rattle.mbe.specs.RuleChoice.{AreChecked}
use Rattle.mbe.specs.MacroViews.{macro_of}
use Rattle.mbe.proofs.ClosestLemmas.{all_checked}
use Rattle.mbe.proofs.macros.DeclarativeMacro.expand_view.Goals as goal

pub expand_rules-requires-clause-checked : goal.expand_rules-requires-clause-checked
expand_rules-requires-clause-checked g c =
    subst (λ rs. AreChecked (rules_seen rs)) (sym c.deref.ensures.value)
    (all_checked (macro_of c.args.self.now) c.args.self.now.tells_refusal c.requires.checked)

pub returns-clause-expands : goal.returns-clause-expands
returns-clause-expands g c = rw c.deref.ensures.value at c.expand_rules.ensures.expands

pub returns-clause-recovers : goal.returns-clause-recovers
returns-clause-recovers g c = rw c.deref.ensures.value at c.expand_rules.ensures.recovers
