use Rattle.std.proofs.Common.{◌∙◌, sym, subst}
use Rattle.std.specs.Prelude.{IfSome}
use Rattle.mbe_matcher.specs.Threads.{Each}
use Rattle.mbe_matcher.specs.Compaction.{Carries, CarriesThread, ThreadsStay}
use Rattle.mbe_matcher.proofs.Carrying.{threads_carried}
use Rattle.mbe_matcher.proofs.compaction.compact.Goals as goal
use Rattle.mbe_matcher.proofs.compaction.compact.Goals.{In-Some}

-- what the other log and its open items have
carries : (g : _) (c : In-Some g) → Carries c.args.log.now c.args.state.now.frames.items c.in-Some.moved
carries g c =
    subst (λ l. Carries c.args.log.now l c.in-Some.moved) c.deref-2.ensures.value
    (subst (λ x. IfSome x (Carries c.args.log.now c.deref-2.result.now)) c.in-Some.is c.in_ok-moved.ensures.carries)

pub returns-clause-threads : goal.returns-clause-threads
returns-clause-threads g c =
    let m = c.in-Some.moved in
    let old = c.args.log.now in
    let before = c.args.state.now.frames.items in
    let todo = c.args.todo.now.items in
    let threads = c.in-Some-2.threads.items in
    let each : Each (CarriesThread m) todo threads =
    subst (λ l. Each (CarriesThread m) l threads) c.as_slice-2.ensures
    (subst (λ x. IfSome x (λ ps. Each (CarriesThread m) c.as_slice-2.result.now ps.items)) c.in-Some-2.is
    c.in_ok-threads-2.ensures) in
    subst (ThreadsStay old m.log before m.frames.items todo)
    (sym (c.in_ok-replace_stack.ensures ∙ c.deref-3.ensures.value))
    (threads_carried m old before (carries g (goal.at.returns-clause-threads g c).In-Some) todo threads each)

pub returns-clause-report : goal.returns-clause-report
returns-clause-report g c = c.relocate.ensures.carries c.if-not-relocate.false c.args.log.now c.in-Some.moved.log
    (carries g (goal.at.returns-clause-report g c).In-Some).handles
