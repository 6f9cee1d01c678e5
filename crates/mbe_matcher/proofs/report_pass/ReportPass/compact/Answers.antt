use Rattle.std.proofs.Common.{subst}
use Rattle.std.specs.Prelude.{IfSome}
use Rattle.mbe_matcher.specs.Threads.{Each}
use Rattle.mbe_matcher.specs.Compaction.{Carries, CarriesThread, CarriesVisit}
use Rattle.mbe_matcher.proofs.Carrying.{threads_carried, visits_carried}
use Rattle.mbe_matcher.proofs.report_pass.ReportPass.compact.Goals as goal
use Rattle.mbe_matcher.proofs.report_pass.ReportPass.compact.Goals.{In-Some}

-- what the other log and its open items have
carries : (g : _) (c : In-Some g) → Carries c.args.log.now c.args.self.now.frames.items c.in-Some.moved
carries g c =
    subst (λ l. Carries c.args.log.now l c.in-Some.moved) c.deref-3.ensures.value
    (subst (λ x. IfSome x (Carries c.args.log.now c.deref-3.result.now)) c.in-Some.is c.in_ok-moved.ensures.carries)

pub returns-clause-firsts : goal.returns-clause-firsts
returns-clause-firsts g c =
    let m = c.in-Some.moved in
    let firsts = c.args.firsts.now.items in
    let each : Each (CarriesThread m) firsts c.in-Some-2.first.items =
    subst (λ l. Each (CarriesThread m) l c.in-Some-2.first.items) c.deref-4.ensures.value
    (subst (λ x. IfSome x (λ ps. Each (CarriesThread m) c.deref-4.result.now ps.items)) c.in-Some-2.is
    c.in_ok-first.ensures) in
    threads_carried m c.args.log.now c.args.self.now.frames.items
    (carries g (goal.at.returns-clause-firsts g c).In-Some) firsts c.in-Some-2.first.items each

pub returns-clause-lasts : goal.returns-clause-lasts
returns-clause-lasts g c =
    let m = c.in-Some.moved in
    let lasts = c.args.lasts.now.items in
    let each : Each (CarriesVisit m) lasts c.in-Some-3.last.items =
    subst (λ l. Each (CarriesVisit m) l c.in-Some-3.last.items) c.deref-5.ensures.value
    (subst (λ x. IfSome x (λ vs. Each (CarriesVisit m) c.deref-5.result.now vs.items)) c.in-Some-3.is
    c.in_ok-last.ensures) in
    visits_carried m c.args.log.now c.args.self.now.frames.items
    (carries g (goal.at.returns-clause-lasts g c).In-Some) lasts c.in-Some-3.last.items each

pub returns-clause-report : goal.returns-clause-report
returns-clause-report g c = c.relocate.ensures.carries c.if-not-relocate.false c.args.log.now c.in-Some.moved.log
    (carries g (goal.at.returns-clause-report g c).In-Some).handles
