use Rattle.std.proofs.Common.{◌-◌, ◌∙◌, None, sym}
use Rattle.mbe_tt.specs.Views.View.{trees}
use Rattle.mbe_semantics.specs.Syntax.Op.{no_ops}
use Rattle.mbe_semantics.specs.Readings.Input.{input_of}
use Rattle.mbe_threads.specs.declared.thread.Thread.{Thread}
use Rattle.mbe_matcher.specs.Threads.{AreSteps, over_steps}
use Rattle.mbe_matcher.proofs.Keeping.{keeps_not}
use Rattle.mbe_matcher.proofs.StepLemmas.{as_model, none_steps, over_alone, not_closed, closed, in_group}
use Rattle.mbe_matcher.proofs.steps.closing_steps.Goals as goal

pub returns-then-not-is_at_group_end-clause-steps : goal.returns-then-not-is_at_group_end-clause-steps
returns-then-not-is_at_group_end-clause-steps g c = λ h log frames n is at o s.
    let src = c.args.source.now in
    rw c.no_steps.ensures
    (as_model log frames
    (λ x. AreSteps (input_of h (trees src.whole)) (trees src.whole) src.offset log log frames frames x none_steps)
    c.args.thread no_ops o s c.requires.tail
    (λ a up t. record {
      now = not_closed (input_of h (trees src.whole)) (trees src.whole) src.offset log frames c.args.thread a up t
          c.args.frame.now
          (in_group log frames c.args.thread.up up n c.args.frame.now t.around is at c.requires.group)
          (sym c.is_at_group_end.ensures ∙ c.if-not-is_at_group_end.true);
      kept = keeps_not log frames;
    }))

pub returns-clause-steps : goal.returns-clause-steps
returns-clause-steps g c = λ h log frames n is at o s.
    let src = c.args.source.now in
    let b = c.args.thread in
    let u = c.args.frame.now in
    let p : Thread g.row.A.Denot = record { tail = u.rest; number = b.number - 1; up = u.up; handle = b.handle } in
    rw c.over.ensures
    (as_model log frames
    (λ x. AreSteps (input_of h (trees src.whole)) (trees src.whole) src.offset log log frames frames x
    (over_steps 1 None p))
    b no_ops o s c.requires.tail
    (λ a up t. record {
      now = closed (input_of h (trees src.whole)) (trees src.whole) src.offset log frames b a up t u
          (in_group log frames b.up up n u t.around is at c.requires.group)
          (sym c.is_at_group_end.ensures ∙ c.if-not-is_at_group_end.false);
      kept = keeps_not log frames;
    }))

pub returns-clause-over : goal.returns-clause-over
returns-clause-over g c = rw c.over.ensures (over_alone 1 None _)
