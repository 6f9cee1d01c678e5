use Rattle.std.specs.Prelude.{Bool, if◌then◌else◌, Some}
use Rattle.std.proofs.Common.{ap, ◌∙◌}
use Rattle.mbe_semantics.specs.Syntax.Template.{empty_repetition}
use Rattle.mbe.proofs.macros.DeclarativeMacro.from_rules.Goals as goal

pub invariant_of-result : goal.invariant_of-result
invariant_of-result g c = record {
  tells_refusal = λ refused. c.in_ok-err.ensures
      ∙ (c.requires.1 ∙ ap (λ (b : Bool). if b then Some empty_repetition else c.requires.0) refused);
}
