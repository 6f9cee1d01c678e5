use Rattle.std.proofs.Common.{◌<◌, subst, refl}
use Rattle.mbe_parser.specs.RuleViews.{rule_of}
use Rattle.mbe.proofs.ChoiceLemmas.{seen_at, length_seen}
use Rattle.mbe.proofs.macros.DeclarativeMacro.template.Goals as goal

pub returns : goal.returns
returns g c =
    let items = c.args.self.now.rules.items in
    let within = subst (λ n. c.args.rule < n) (length_seen rule_of items) c.requires.rule in
    let here = seen_at rule_of items c.args.rule c.index-found.result.now within c.index-found.ensures in
    (rule_of c.index-found.result.now, here, refl)
