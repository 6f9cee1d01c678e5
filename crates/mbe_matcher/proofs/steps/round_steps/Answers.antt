use Rattle.std.proofs.Common.{◌-◌, None, Some, sym}
use Rattle.mbe_tt.specs.Views.View.{trees}
use Rattle.mbe_semantics.specs.Syntax.Op.{no_ops}
use Rattle.mbe_semantics.specs.Readings.Input.{input_of}
use Rattle.mbe_semantics.specs.Bindings.Account.{Handle}
use Rattle.mbe_threads.specs.declared.thread.ThreadFrame.{ThreadFrame}
use Rattle.mbe_threads.specs.declared.thread.Thread.{Thread}
use Rattle.mbe_threads.specs.declared.thread.Steps.{Steps}
use Rattle.mbe_matcher.specs.Threads.{AreSteps, over_steps}
use Rattle.mbe_log.proofs.ClientLemmas.{has_entries}
use Rattle.mbe_matcher.proofs.StepLemmas.{as_model, in_rounds, round_done, round_more}
use Rattle.mbe_matcher.proofs.steps.round_steps.Goals as goal

-- over the end of what is open
abbrev after_rounds : {A : Type 0} → ThreadFrame A → Thread A → Handle → Thread A
after_rounds u b h = record { tail = u.rest; number = b.number - 1; up = u.up; handle = h }

pub push_nested-requires-clause-parent : goal.push_nested-requires-clause-parent
push_nested-requires-clause-parent g c = rw c.again-outside.ensures c.requires.outside

pub push_nested-requires-clause-child : goal.push_nested-requires-clause-child
push_nested-requires-clause-child g c = let a =
    c.requires.account in has_entries c.args.log.now c.args.thread.handle a.0 a.1

pub returns-in_default : goal.returns-in_default
returns-in_default g c = λ h frames e at o s.
    let src = c.args.source.now in
    let b = c.args.thread in
    let old = c.args.log.now in
    let mid = c.push_nested.new.self in
    let u = c.args.frame.now in
    let p = after_rounds u b c.push_nested.new.parent in
    let d : Steps g.row.A.Denot = record { first = None; second = Some p; next = None; done = None } in
    rw c.epsilons.ensures
    (as_model old frames (λ x. AreSteps (input_of h (trees src.whole)) (trees src.whole) src.offset old mid frames
    frames x d)
    b no_ops o s c.requires.tail
    (λ a up t. round_done h (trees src.whole) src.offset old mid frames b a up u c.args.rounds.now
    c.push_nested.new.parent t
    (in_rounds old frames b.up up at.0 u c.args.rounds.now t.around at.1 at.2 at.3)
    (rw c.again-outside.ensures at (c.in_ok-push_nested.ensures.ok a t.account))
    (rw (c.here-here.ensures, sym e) at c.in_default.ensures)))

pub push_default-requires : goal.push_default-requires
push_default-requires g c =
    let a = c.requires.account in
    has_entries c.push_nested.new.self c.args.thread.handle a.0
    ((c.in_ok-push_nested.ensures.ok a.0 a.1).kept.others c.args.thread.handle a.0 a.1)

pub returns : goal.returns
returns g c = λ h frames e at o s.
    let src = c.args.source.now in
    let b = c.args.thread in
    let old = c.args.log.now in
    let mid = c.push_nested.new.self in
    let new = c.push_default.new.self in
    let u = c.args.frame.now in
    let r = c.args.rounds.now in
    let p = after_rounds u b c.push_nested.new.parent in
    let q : Thread g.row.A.Denot = record {
      tail = r.body;
      number = r.front;
      up = b.up;
      handle = c.push_default.new.handle;
    } in
    let n = c.in-Some.width in
    let d : Steps g.row.A.Denot = record {
      first = (over_steps n None q).first;
      second = Some p;
      next = (over_steps n None q).next;
      done = (over_steps n None q).done;
    } in
    rw c.over.ensures
    (as_model old frames (λ x. AreSteps (input_of h (trees src.whole)) (trees src.whole) src.offset old new frames
    frames x d)
    b no_ops o s c.requires.tail
    (λ a up t. round_more h (trees src.whole) src.offset old mid frames b a up u r c.push_nested.new.parent t
    (in_rounds old frames b.up up at.0 u r t.around at.1 at.2 at.3)
    (rw c.again-outside.ensures at (c.in_ok-push_nested.ensures.ok a t.account))
    new c.push_default.new.handle n at.0 (rw (c.here-here.ensures, sym e) at c.in-Some.ensures)
    c.in_ok-push_default.ensures.ok at.1
    at.2 at.3))
