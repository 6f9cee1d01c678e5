use Rattle.std.proofs.Common.{None, ◌-◌, sym}
use Rattle.mbe_tt.specs.Views.View.{trees}
use Rattle.mbe_semantics.specs.Readings.Input.{input_of}
use Rattle.mbe_ops.specs.Views.{op_of, ops_of}
use Rattle.mbe_threads.specs.declared.thread.Thread.{Thread}
use Rattle.mbe_matcher.specs.Threads.{AreStepsNow, over_steps}
use Rattle.mbe_matcher.proofs.StepLemmas.{as_model, none_steps, over_alone, plain_none, plain_over, plain_past}
use Rattle.mbe_matcher.proofs.steps.plain_steps.Goals as goal

pub returns-in_default-clause-steps : goal.returns-in_default-clause-steps
returns-in_default-clause-steps g c = λ h log frames o d s.
    let src = c.args.source.now in
    let e = rw (c.here.ensures, sym d) at c.in_default.ensures in
    rw c.no_steps.ensures
    (as_model log frames (λ x. AreStepsNow (input_of h (trees src.whole)) (trees src.whole) src.offset log frames x
    none_steps)
    c.args.thread _ o s c.requires.tail
    (λ a up t. plain_none (trees src.whole) src.offset log frames h (op_of c.args.op.now) (ops_of c.args.rest.now) a up
    c.requires.plain e))

pub returns-clause-steps : goal.returns-clause-steps
returns-clause-steps g c = λ h log frames o d s.
    let src = c.args.source.now in
    let b = c.args.thread in
    let p : Thread g.row.A.Denot = record {
      tail = c.args.rest;
      number = b.number - 1;
      up = b.up;
      handle = b.handle;
    } in
    let e = rw (c.here.ensures, sym d) at c.in-Some.ensures in
    rw c.over.ensures
    (as_model log frames (λ x. AreStepsNow (input_of h (trees src.whole)) (trees src.whole) src.offset log frames x
    (over_steps c.in-Some.width None p))
    b _ o s c.requires.tail
    (λ a up t. plain_over (trees src.whole) src.offset log frames h (op_of c.args.op.now) (ops_of c.args.rest.now) a up
    c.in-Some.width p c.requires.plain e
    (plain_past log frames b (op_of c.args.op.now) a up c.args.rest c.requires.plain t)))

pub returns-clause-over : goal.returns-clause-over
returns-clause-over g c =
    let b = c.args.thread in
    let p : Thread g.row.A.Denot = record {
      tail = c.args.rest;
      number = b.number - 1;
      up = b.up;
      handle = b.handle;
    } in
    rw c.over.ensures (over_alone c.in-Some.width None p)
