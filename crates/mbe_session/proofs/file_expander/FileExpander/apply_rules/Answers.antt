use Rattle.std.proofs.Common.{rules, refl, ap, ◌∙◌}
use Rattle.std.specs.Prelude.{Some, None}
use Rattle.mbe_rewriter.specs.MacroItemViews.{call_shown}
use Rattle.mbe_ops.specs.Errors.ErrorViews.{error_of, errors_of}
use Rattle.mbe_session.specs.SessionViews.{setting_of, state_of}
use Rattle.mbe.specs.MacroViews.{macro_of}
use Rattle.mbe_session.specs.CallExpansion.{by_definition, by_rules, settled_in, with_step_contexts, with_written}
use Rattle.mbe_session.proofs.FaultLemmas.{sound}
use Rattle.mbe_session.proofs.MarkLemmas.{makes}
use Rattle.mbe_session.proofs.CallLemmas.{found_as, there, not_there}
use Rattle.mbe_session.proofs.file_expander.FileExpander.apply_rules.Goals as goal

pub returns-then-is_some-clause-applies : goal.returns-then-is_some-clause-applies
returns-then-is_some-clause-applies g c = (
  by_definition (macro_of c.in-Some.rules.now)
      (found_as _ c.rules.result c.in-Some.rules _ c.rules.ensures (search rules))
      (there _ c.err.result _ c.err.ensures (search rules)),
  search rules,
)

pub returns-in-Some-err-clause-applies : goal.returns-in-Some-err-clause-applies
returns-in-Some-err-clause-applies g c = (
  by_rules (macro_of c.in-Some.rules.now) _ _
      (found_as _ c.rules.result c.in-Some.rules _ c.rules.ensures (search rules))
      (makes (setting_of c.args.self.now) (state_of c.args.self.now) (call_shown c.args.call)
      (macro_of c.in-Some.rules.now)
      c.in_ok-argument.argument c.in_ok-value.field-0.value.0
      (settled_in c.args.self.now.grammar.dialect c.in_ok-value.field-0.value.0)
      c.in_ok-value.field-0.value.1 (errors_of c.in_ok-value.field-0.err) (Some (error_of c.in-Some-err.error))
      c.in_ok-value.ensures.expands (λ s t asked. search rules) (search rules) (search rules) refl),
  search rules,
)

pub returns-clause-applies : goal.returns-clause-applies
returns-clause-applies g c = (
  macro_of c.in-Some.rules.now,
  found_as _ c.rules.result c.in-Some.rules _ c.rules.ensures (search rules),
  not_there _ c.err.result _ c.err.ensures (search rules),
  makes (setting_of c.args.self.now) (state_of c.args.self.now) (call_shown c.args.call) (macro_of c.in-Some.rules.now)
      c.in_ok-argument.argument c.in_ok-value.field-0.value.0 c.in_ok-tree.tree
      c.in_ok-value.field-0.value.1 (errors_of c.in_ok-value.field-0.err) None c.in_ok-value.ensures.expands
      (λ s t asked. search rules) (search rules) (search rules) c.in_ok-tree.ensures,
  c.spend_tokens.ensures.state ∙ ap (with_written c.in_ok-tree.tree)
      (c.in_ok-add_contexts.ensures.state ∙ ap (with_step_contexts (call_shown c.args.call)) (search rules)),
)

pub returns-in-Some-err-clause-refused : goal.returns-in-Some-err-clause-refused
returns-in-Some-err-clause-refused g c =
    sound _ (macro_of c.in-Some.rules.now)
    (found_as _ c.rules.result c.in-Some.rules _ c.rules.ensures (search rules))
    (not_there _ c.err.result _ c.err.ensures (search rules))

pub returns-clause-refused : goal.returns-clause-refused
returns-clause-refused g c =
    sound _ (macro_of c.in-Some.rules.now)
    (found_as _ c.rules.result c.in-Some.rules _ c.rules.ensures (search rules))
    (not_there _ c.err.result _ c.err.ensures (search rules))
