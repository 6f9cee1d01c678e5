use Rattle.std.proofs.Common.{None, Some, ◌-◌, ◌≡◌, ◌∙◌, length, sym, refl, arith}
use Rattle.mbe_tt.specs.Views.View.{trees}
use Rattle.mbe_semantics.specs.Readings.Input.{input_of}
use Rattle.mbe_ops.specs.Views.{ops_of}
use Rattle.mbe_threads.specs.declared.thread.Thread.{Thread}
use Rattle.mbe_matcher.specs.Threads.{AreSteps, over_steps}
use Rattle.mbe_matcher.proofs.Keeping.{keeps_not, keeps_more}
use Rattle.mbe_matcher.proofs.StepLemmas.{as_model, none_steps, over_alone, group_none, group_over, group_entered}
use Rattle.mbe_matcher.proofs.steps.group_steps.Goals as goal

pub returns-then-not-opens-clause-steps : goal.returns-then-not-opens-clause-steps
returns-then-not-opens-clause-steps g c = λ h log d o s.
    let src = c.args.source.now in
    let us = c.args.frames.now.items in
    let e = rw (c.here.ensures, sym d) at c.opens.ensures in
    rw c.no_steps.ensures
    (as_model log us (λ x. AreSteps (input_of h (trees src.whole)) (trees src.whole) src.offset log log us us x
    none_steps)
    c.args.thread _ o s c.requires.tail
    (λ a up t. record {
      now = group_none (trees src.whole) src.offset log us (input_of h (trees src.whole)) c.args.delimiter
          (ops_of c.args.body.now) (ops_of c.args.rest.now) a up (sym e ∙ c.if-not-opens.true);
      kept = keeps_not log us;
    }))

pub returns-clause-steps : goal.returns-clause-steps
returns-clause-steps g c = λ h log d o s.
    let src = c.args.source.now in
    let us = c.args.frames.now.items in
    let vs = c.push.new.self.items in
    let b = c.args.thread in
    let n : c.len.result ≡ length us = omega (arith, c.len.ensures, c.args.frames.now.ok.0) in
    let p : Thread g.row.A.Denot = record {
      tail = c.args.body;
      number = b.number - 1;
      up = Some c.len.result;
      handle = b.handle;
    } in
    let e = rw (c.here.ensures, sym d) at c.opens.ensures in
    rw c.over.ensures
    (as_model log us (λ x. AreSteps (input_of h (trees src.whole)) (trees src.whole) src.offset log log us vs x
    (over_steps 1 None p))
    b _ o s c.requires.tail
    (λ a up t. record {
      now = group_over (trees src.whole) src.offset log vs (input_of h (trees src.whole)) c.args.delimiter
          (ops_of c.args.body.now) (ops_of c.args.rest.now) a up p (sym e ∙ c.if-not-opens.false)
          (group_entered us vs c.len.result n log b c.args.delimiter (ops_of c.args.rest.now) a up c.args.body
          c.args.rest refl t c.in_ok-push.ensures.items);
      kept = keeps_more log us vs _ c.in_ok-push.ensures.items;
    }))

pub returns-clause-over : goal.returns-clause-over
returns-clause-over g c = rw c.over.ensures (over_alone 1 None _)
