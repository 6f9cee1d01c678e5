use Rattle.std.proofs.Common.{map}
use Rattle.mbe_diagnostics.proofs.LoopLemmas.{one_less}
use Rattle.mbe_session.specs.LintedFiles.{FilesLinted}
use Rattle.mbe_session.proofs.linted_files.push_all_lints.Goals as goal

pub loop-file-preserved : goal.loop-file-preserved
loop-file-preserved c =
    one_less (λ fs before after. FilesLinted c.args.edition (map (λ f. f.tree) fs) before after)
    c.args.files.now _ _ c.file-item.result c.loop-file.file-index _ c.loop-file-test.true c.file-item.is
    (λ end rest. (_, c.in_ok-push_file_lints.ensures, rest)) c.loop-file.invariant
