use Rattle.std.proofs.Common.{◌≡◌, ◌-◌, None, Some, length, refl, arith}
use Rattle.mbe_threads.specs.declared.thread.Thread.{Thread}
use Rattle.mbe_threads.specs.declared.thread.Steps.{Steps}
use Rattle.mbe_matcher.specs.Threads.{AreSteps}
use Rattle.mbe_matcher.proofs.StepLemmas.{as_model, repetition_entered}
use Rattle.mbe_matcher.proofs.steps.repetition_steps.Goals as goal

pub returns : goal.returns
returns g c = λ i argument q o h.
    let n : c.len.result ≡ length c.args.frames.now.items = omega (arith, c.len.ensures, c.args.frames.now.ok.0) in
    let p : Thread g.row.A.Denot = record {
      tail = c.args.body;
      number = c.args.thread.number - 1;
      up = Some c.len.result;
      handle = c.empty_handle-handle.result;
    } in
    let s : Steps g.row.A.Denot = record { first = Some p; second = c.in_ok-second.second; next = None; done = None } in
    rw c.epsilons.ensures
    (as_model c.args.log.now c.args.frames.now.items
    (λ x. AreSteps i argument q c.args.log.now c.skipped.new.log c.args.frames.now.items c.push.new.self.items x s)
    c.args.thread _ o h c.requires.tail
    (λ a up t. repetition_entered c.args.frames.now.items c.push.new.self.items c.len.result n i argument q
    c.args.log.now c.skipped.new.log
    c.args.thread _ a up c.args.body c.args.rest c.args.separator c.args.kind c.in_ok-second.second
    c.empty_handle-handle.result refl t
    c.in_ok-second.ensures
    (c.empty_handle-handle.ensures.account c.skipped.new.log
    (c.in_ok-second.ensures.kept.entries c.args.thread.handle c.requires.entries)) c.in_ok-push.ensures.items))
