use Rattle.std.proofs.Common.{◌≡◌, map, take}
use Rattle.mbe_tt.specs.Buffers.GroupStack.{put}
use Rattle.mbe_cfg.specs.Crates.CrateViews.{insertion_shown}
use Rattle.mbe_cfg.specs.Crates.ExpansionModules.{inserted_at}
use Rattle.mbe_cfg.proofs.crates.expansion_modules.write_insertions.Given as goal

abbrev pub invariant-loop-insertion : goal.invariant-loop-insertion
invariant-loop-insertion g l =
    l.builder
    ≡ put (inserted_at (map insertion_shown (take l.insertion-index l.insertions)) l.end) l.initial.builder
