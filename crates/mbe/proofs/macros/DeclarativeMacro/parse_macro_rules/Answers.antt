use Rattle.std.proofs.Common.{sym, subst, ◌∙◌}
use Rattle.std.proofs.lemmas.Result.{IfOk-weaker}
use Rattle.mbe_semantics.specs.Expansion.ParsedMacro.{IsParsedRules}
use Rattle.mbe.proofs.macros.DeclarativeMacro.parse_macro_rules.Goals as goal

pub from_rules-requires : goal.from_rules-requires
from_rules-requires g c =
    (c.in_ok-rules.ensures.rules.0, c.why_refused.ensures ∙ c.in_ok-rules.ensures.rules.2)

pub returns : goal.returns
returns g c =
    let read = rw (c.iter.ensures, ← c.why_refused.ensures) at c.in_ok-rules.ensures.rules in
    IfOk-weaker c.from_rules.result _ _ (λ m e. subst (IsParsedRules _ c.args.tt.now.1) (sym e) read)
    c.from_rules.ensures
