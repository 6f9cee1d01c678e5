use Rattle.std.proofs.Common.{refl}
use Rattle.mbe_cfg.specs.Crates.CrateViews.{insertion_shown}
use Rattle.mbe_session.specs.CallTextViews.{call_of}
use Rattle.mbe_session.proofs.CallModuleLemmas.{more_insertions, no_insertion}
use Rattle.mbe_session.proofs.call_modules.insertions_of.Goals as goal

pub loop-call-init : goal.loop-call-init
loop-call-init c =
    no_insertion insertion_shown c.args.source_settings.now c.args.number c.new-insertions.result.items
    c.new-insertions.ensures.items

pub loop-call-preserved : goal.loop-call-preserved
loop-call-preserved c =
    more_insertions call_of insertion_shown c.args.source_settings.now c.args.number c.args.calls.now
    c.call-item.result c.loop-call.call-index c.loop-call.insertions.items c.push.new.self.items _
    c.in_ok-trees.trees.1 c.loop-call-test.true c.call-item.is c.loop-call.invariant c.in_ok-push.ensures.items refl
    c.in_ok-trees.ensures
