use Rattle.std.proofs.Common.{ap, length, map}
use Rattle.mbe_rewriter.specs.Hygiene.EventViews.{event_of, naming_of}
use Rattle.mbe_rewriter.proofs.Renaming.WrittenLemmas.{whole_seen, built}
use Rattle.mbe_rewriter.proofs.hygiene.renamer.rewritten.Goals as goal

pub build-requires : goal.build-requires
build-requires g c =
    ap length (whole_seen c.args.tree.now.1 c.args.tree.now.0 _ (map naming_of c.args.given.now)
    (map event_of c.args.events.now) c.in_ok-builder.builder c.write.new.builder c.requires
    c.in_ok-builder.ensures c.top_subtree.ensures c.in_ok-write.ensures)

pub returns : goal.returns
returns g c =
    built c.args.tree.now c.build.result (map naming_of c.args.given.now) c.write.new.builder
    (whole_seen c.args.tree.now.1 c.args.tree.now.0 _ (map naming_of c.args.given.now)
    (map event_of c.args.events.now) c.in_ok-builder.builder c.write.new.builder c.requires
    c.in_ok-builder.ensures c.top_subtree.ensures c.in_ok-write.ensures) c.build.ensures
