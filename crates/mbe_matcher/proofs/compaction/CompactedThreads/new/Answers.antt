use Rattle.std.proofs.Common.{sym, subst}
use Rattle.std.specs.Prelude.{IfSome}
use Rattle.mbe_semantics.specs.Bindings.Account.{Log}
use Rattle.mbe_log.specs.HandleChanges.{KeepsHandles}
use Rattle.mbe_matcher.specs.Compaction.{AreHandles}
use Rattle.mbe_matcher.proofs.compaction.CompactedThreads.new.Goals as goal

pub returns-clause-carries : goal.returns-clause-carries
returns-clause-carries g c = c.in_ok-take_outers.ensures.carries c.args.log.now
    (subst (λ x. IfSome x (λ d. AreHandles d.moves c.args.log.now d.log)) c.in-Some.is
    c.in_ok-compacted.ensures.moved)

pub returns-clause-start : goal.returns-clause-start
returns-clause-start g c = λ first kept fits.
    subst (λ (x : Log). KeepsHandles first x) (sym c.in_ok-take_outers.ensures.log)
    (subst (λ x. IfSome x (λ d. KeepsHandles first d.log)) c.in-Some.is
    (c.in_ok-compacted.ensures.kept first kept fits))
