use Rattle.mbe_cfg.specs.Crates.CrateViews.{file_shown}
use Rattle.mbe_session.specs.CrateTrees.{file_of}
use Rattle.mbe_session.specs.FileViews.{source_of}
use Rattle.mbe_session.proofs.SessionLemmas.{one_more_text}
use Rattle.mbe_session.proofs.crate_expander.files_of.Goals as goal

pub loop-file-preserved : goal.loop-file-preserved
loop-file-preserved c =
    one_more_text file_shown (λ f. file_of (source_of f)) c.loop-file.found.items c.push.new.self.items
    c.file_of.result c.args.files.now c.file-item.result c.loop-file.file-index c.loop-file-test.true c.file-item.is
    c.in_ok-push.ensures.items c.loop-file.invariant c.file_of.ensures
