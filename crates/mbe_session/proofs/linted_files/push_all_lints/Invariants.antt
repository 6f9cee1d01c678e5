use Rattle.std.proofs.Common.{List, map, drop}
use Rattle.mbe_diagnostics.specs.Lints.Lint.{Lint, lint_seen}
use Rattle.mbe_session.specs.LintedFiles.{FilesLinted}
use Rattle.mbe_session.proofs.linted_files.push_all_lints.Given as goal

-- Whatever the files that are left lead to, all files lead to.
abbrev pub invariant-loop-file : goal.invariant-loop-file
invariant-loop-file l = (end : List Lint)
    → FilesLinted l.edition (map (λ f. f.tree) (drop l.file-index l.files)) (map lint_seen l.lints.items) end
    → FilesLinted l.edition (map (λ f. f.tree) l.files) (map lint_seen l.initial.lints.items) end
