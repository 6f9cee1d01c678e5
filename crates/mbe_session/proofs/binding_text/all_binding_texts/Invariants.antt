use Rattle.std.proofs.Common.{◌≡◌, ◌++◌, map, drop}
use Rattle.mbe_bindings.specs.BindingViews.{env_of}
use Rattle.mbe_ops.specs.Views.{template_of}
use Rattle.mbe_diagnostics.specs.RuleChecks.Variables.{variables_in, variable_seen}
use Rattle.mbe_session.specs.BindingText.{binding_text_of, binding_text_seen}
use Rattle.mbe_session.proofs.binding_text.all_binding_texts.Given as goal

abbrev pub invariant-loop-variable : goal.invariant-loop-variable
invariant-loop-variable g l =
    map binding_text_seen l.all.items
    ++ map (binding_text_of (env_of l.bindings)) (map variable_seen (drop l.variable-index l.variable-items))
    ≡ map (binding_text_of (env_of l.bindings)) (variables_in 0 (template_of l.pattern))
