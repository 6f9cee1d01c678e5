use Rattle.std.proofs.Common.{None, Some, sym, subst, ◌∙◌}
use Rattle.std.proofs.lemmas.Result.{IfOk-weaker}
use Rattle.mbe_semantics.specs.Expansion.ParsedMacro.{IsParsedMacro}
use Rattle.mbe_parser.proofs.EmptyRules.{one_first}
use Rattle.mbe.proofs.macros.DeclarativeMacro.parse_macro2.Goals as goal

pub from_rules-requires : goal.from_rules-requires
from_rules-requires g c =
    let first = one_first _ _ _ c.in_ok-rules-in-Some.ensures.rule in
    (first.0, c.why_one_refused.ensures ∙ first.1)

pub returns-in_ok-rules-in-Some : goal.returns-in_ok-rules-in-Some
returns-in_ok-rules-in-Some g c =
    let read = rw (c.iter.ensures, c.iter-in-Some.ensures, ← c.why_one_refused.ensures)
    at c.in_ok-rules-in-Some.ensures.rule in
    rw c.in-Some.is (IfOk-weaker c.from_rules.result _ _
    (λ m e. subst (IsParsedMacro _ (Some c.in-Some.args.now.1) c.args.body.now.1) (sym e) read)
    c.from_rules.ensures)

pub from_rules-requires-in-None : goal.from_rules-requires-in-None
from_rules-requires-in-None g c = (
  c.in_ok-rules-in-None.ensures.rules.0,
  c.why_refused.ensures ∙ c.in_ok-rules-in-None.ensures.rules.2,
)

pub returns-in_ok-rules-in-None : goal.returns-in_ok-rules-in-None
returns-in_ok-rules-in-None g c =
    let read = rw (c.iter-in-None.ensures, ← c.why_refused.ensures) at c.in_ok-rules-in-None.ensures.rules in
    rw c.in-None.is (IfOk-weaker c.from_rules-in-None.result _ _
    (λ m e. subst (IsParsedMacro _ None c.args.body.now.1) (sym e) read) c.from_rules-in-None.ensures)
