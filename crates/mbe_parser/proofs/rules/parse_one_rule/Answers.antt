use Rattle.std.proofs.Common.{◌≡◌, [], ap, refl}
use Rattle.mbe_semantics.specs.declared.macro_call_style.MacroCallStyle.TheVariants.{FnLike}
use Rattle.mbe_semantics.specs.Syntax.Template.{pattern, template}
use Rattle.mbe_semantics.specs.Syntax.Definition.{in_pattern, in_template}
use Rattle.mbe_ops.specs.Errors.ErrorViews.{fault_of}
use Rattle.mbe_ops.specs.Views.{template_of}
use Rattle.mbe_parser.specs.RuleViews.{rules_seen}
use Rattle.mbe_parser.specs.RefusedRepetitions.{by_fault_of}
use Rattle.mbe_parser.proofs.PlaceLaws.{template_fault}
use Rattle.mbe_parser.proofs.RuleLemmas.{one_pushed}
use Rattle.mbe_parser.proofs.EmptyRules.{one_faulty, one_refused, one_placed}
use Rattle.mbe_parser.proofs.rules.parse_one_rule.Goals as goal

pub returns-in-Err-clause-rule : goal.returns-in-Err-clause-rule
returns-in-Err-clause-rule g c =
    let w = rw c.in_ok-found-in-Err.ensures at c.in-Err.ensures.fault in
    rw c.within.ensures.fault
    (one_faulty _ c.args.arguments c.args.body (rules_seen c.new-rules.result.items) (fault_of
    c.in_ok-found-in-Err.found.fault)
    (ap rules_seen c.new-rules.ensures.items) (in_pattern (template_fault _ pattern (fault_of
    c.in_ok-found-in-Err.found.fault) w)))

pub returns-in-Err-clause-offset : goal.returns-in-Err-clause-offset
returns-in-Err-clause-offset g c =
    let w = rw c.in_ok-found-in-Err.ensures at c.in-Err.ensures.fault in
    rw (c.within.ensures.fault, c.within.ensures.part, c.within.ensures.offset)
    (by_fault_of (fault_of c.in_ok-found-in-Err.found.fault) pattern c.in_ok-found-in-Err.found.offset w)

pub returns-in_ok-push-in-Ok-parse_template-clause-rule : goal.returns-in_ok-push-in-Ok-parse_template-clause-rule
returns-in_ok-push-in-Ok-parse_template-clause-rule g c =
    let none_before : c.new-rules.result.items ≡ [] = c.new-rules.ensures.items in
    let reads = c.in-Ok.ensures.ops in
    let empty = c.in-Ok.ensures.empty in
    let writes = c.in-Ok-parse_template.ensures.ops in
    rw c.empty_in_pattern-empty.ensures
    (one_refused _ c.args.arguments c.args.body
    (record {
      style = FnLike;
      reads = template_of c.in-Ok.parsed.ops;
      writes = template_of
          c.in-Ok-parse_template.writes.ops;
    })
    (rules_seen c.push.new.self.items) c.in-Ok.parsed.empty
    (one_pushed _ _ _ none_before c.in_ok-push-in-Ok-parse_template.ensures.items)
    (record { style = refl; reads = reads; writes = writes }) empty)

pub returns-in_ok-push-in-Ok-parse_template-clause-offset : goal.returns-in_ok-push-in-Ok-parse_template-clause-offset
returns-in_ok-push-in-Ok-parse_template-clause-offset g c =
    let reads = c.in-Ok.ensures.ops in
    let empty = c.in-Ok.ensures.empty in
    let writes = c.in-Ok-parse_template.ensures.ops in
    rw c.empty_in_pattern-empty.ensures
    (one_placed _ c.args.arguments c.args.body (template_of c.in-Ok.parsed.ops) (template_of
    c.in-Ok-parse_template.writes.ops) c.in-Ok.parsed.empty
    reads writes empty)

pub returns-in_ok-found-in-Err-parse_template-clause-rule : goal.returns-in_ok-found-in-Err-parse_template-clause-rule
returns-in_ok-found-in-Err-parse_template-clause-rule g c =
    let reads = c.in-Ok.ensures.ops in
    let w = rw c.in_ok-found-in-Err-parse_template.ensures at c.in-Err-parse_template.ensures.fault in
    rw c.within-in-Err-parse_template.ensures.fault
    (one_faulty _ c.args.arguments c.args.body (rules_seen c.new-rules.result.items) (fault_of
    c.in_ok-found-in-Err-parse_template.found.fault)
    (ap rules_seen c.new-rules.ensures.items)
    (in_template (template_of c.in-Ok.parsed.ops) reads (template_fault _ template (fault_of
    c.in_ok-found-in-Err-parse_template.found.fault) w)))

pub returns-in_ok-found-in-Err-parse_template-clause-offset : goal.returns-in_ok-found-in-Err-parse_template-clause-offset
returns-in_ok-found-in-Err-parse_template-clause-offset g c =
    let reads = c.in-Ok.ensures.ops in
    let w = rw c.in_ok-found-in-Err-parse_template.ensures at c.in-Err-parse_template.ensures.fault in
    rw (
      c.within-in-Err-parse_template.ensures.fault,
      c.within-in-Err-parse_template.ensures.part,
      c.within-in-Err-parse_template.ensures.offset,
    )
    (by_fault_of (fault_of c.in_ok-found-in-Err-parse_template.found.fault) template
    c.in_ok-found-in-Err-parse_template.found.offset
    (template_of c.in-Ok.parsed.ops, reads, w))
