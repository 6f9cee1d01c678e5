use Rattle.std.proofs.Common.{◌≡◌, map, take}
use Rattle.mbe_cfg.specs.Crates.CrateViews.{file_shown}
use Rattle.mbe_session.specs.CrateTrees.{file_of}
use Rattle.mbe_session.specs.FileViews.{source_of}
use Rattle.mbe_session.proofs.crate_expander.files_of.Given as goal

abbrev pub invariant-loop-file : goal.invariant-loop-file
invariant-loop-file l =
    map file_shown l.found.items ≡ map (λ f. file_of (source_of f)) (take l.file-index l.files)
