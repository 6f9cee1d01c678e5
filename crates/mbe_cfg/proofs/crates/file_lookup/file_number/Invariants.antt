use Rattle.std.proofs.Common.{◌≡◌, map}
use Rattle.std.specs.List.{slice_get}
use Rattle.mbe_cfg.specs.Crates.CrateViews.{file_shown}
use Rattle.mbe_cfg.specs.Crates.FileLookup.{has_path, last_below, file_number}
use Rattle.mbe_cfg.proofs.crates.file_lookup.file_number.Given as goal

abbrev pub invariant-numbers : goal.invariant-numbers
invariant-numbers g l =
    last_below (λ n. has_path l.path (slice_get (map file_shown l.files) n)) l.left
    ≡ file_number (map file_shown l.files) l.path

abbrev pub decreases-numbers : goal.decreases-numbers
decreases-numbers g l = l.left
