use Rattle.std.proofs.Common.{◌≡◌, take}
use Rattle.mbe.specs.Styles.{bits_of}
use Rattle.mbe_parser.specs.RuleViews.{rules_seen}
use Rattle.mbe.proofs.StyleLemmas.{styles_of}
use Rattle.mbe.proofs.macros.DeclarativeMacro.rule_styles.Given as goal

abbrev pub invariant-loop-rule : goal.invariant-loop-rule
invariant-loop-rule g l = bits_of l.styles ≡ styles_of (rules_seen (take l.rule-index l.self.rules.items))
