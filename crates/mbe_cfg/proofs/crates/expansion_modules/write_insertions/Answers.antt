use Rattle.mbe_tt.proofs.Buffers.Grown.{put-none}
use Rattle.mbe_cfg.specs.Crates.CrateViews.{insertion_shown}
use Rattle.mbe_cfg.proofs.DeclareLemmas.{inserted_more, still_open}
use Rattle.mbe_cfg.proofs.crates.expansion_modules.write_insertions.Goals as goal

pub loop-insertion-init : goal.loop-insertion-init
loop-insertion-init g c = put-none c.args.builder.now

pub write_insertion-requires : goal.write_insertion-requires
write_insertion-requires g c =
    record {
      some = still_open c.args.builder.now c.loop-insertion.builder _ c.requires.some c.loop-insertion.invariant;
    }

pub loop-insertion-preserved : goal.loop-insertion-preserved
loop-insertion-preserved g c =
    inserted_more insertion_shown c.args.insertions.now c.insertion-item.result c.loop-insertion.insertion-index
    c.args.end c.args.builder.now c.loop-insertion.builder c.write_insertion.new.builder c.loop-insertion-test.true
    c.insertion-item.is c.loop-insertion.invariant c.in_ok-write_insertion.ensures
