use Rattle.std.proofs.Common.{◌∙◌, sym, ap}
use Rattle.mbe_parser.specs.RuleViews.{rules_seen}
use Rattle.mbe_parser.proofs.EmptyRules.{refuses}
use Rattle.mbe.proofs.macros.DeclarativeMacro.try_clone.Goals as goal

pub invariant_of-result : goal.invariant_of-result
invariant_of-result g c =
    let same = c.in_ok-rules.ensures ∙ ap rules_seen c.deref.ensures.value in
    record {
      tells_refusal = λ refused. c.in_ok-err.ensures
          ∙ c.args.self.now.tells_refusal (sym (ap refuses same) ∙ refused);
    }
