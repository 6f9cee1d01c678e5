use Rattle.std.proofs.Common.{map, take}
use Rattle.mbe_cfg.specs.Crates.CrateViews.{insertion_shown}
use Rattle.mbe_session.specs.CallModules.{AreInsertions}
use Rattle.mbe_session.specs.CallTextViews.{call_of}
use Rattle.mbe_session.proofs.call_modules.insertions_of.Given as goal

abbrev pub invariant-loop-call : goal.invariant-loop-call
invariant-loop-call l =
    AreInsertions l.source_settings l.number (map call_of (take l.call-index l.calls))
    (map insertion_shown l.insertions.items)
